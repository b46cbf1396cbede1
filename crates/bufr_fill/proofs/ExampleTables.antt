-- The table, the templates and the drafts of the worked examples, and their bits.
use Rattle.std.proofs.Common.{ℕ, zero, suc, ◌+◌, ◌*◌, Bool, List, [], ◌∷◌, Result, Ok, ℤ, pos, negsuc, take}
use Rattle.bufr_bits.specs.Prelude.{bits_of}
use Rattle.bufr_tables.specs.declared.table_b.Kind.TheVariants as kind
use Rattle.bufr_tables.specs.Prelude.{Row, Tree, bare, element, operator, delayed}
use Rattle.bufr_walk.specs.Prelude.{next_item}
use Rattle.bufr_fill.specs.Prelude.{Kind, Draft, draft, number_token, Subset, DraftFault, plain_data, packed_data}

-- the descriptor with this F, X and Y
unfoldable pub fxy : (f x y : ℕ) → ℕ
fxy f x y = f * 16384 + (x * 256 + y)

listed : (f x y : ℕ) → Kind → (scale reference : ℤ) → (width : ℕ) → Row
unfolding fxy
listed f x y k s r w = record { fxy = fxy f x y; name = []; unit = []; kind = k; scale = s; reference = r; width = w }

-- a block number, a name, a latitude, a temperature, an element of a code table, and class 31: two
-- factors and an element of a code table
unfoldable pub table : List Row
unfolding listed
table =
    listed 0 1 1 kind.Numeric (pos 0) (pos 0) 7
    ∷ listed 0 1 15 kind.Character (pos 0) (pos 0) 160
    ∷ listed 0 5 2 kind.Numeric (pos 2) (negsuc 8999) 15
    ∷ listed 0 12 101 kind.Numeric (pos 2) (pos 0) 16
    ∷ listed 0 20 3 kind.Coded (pos 0) (pos 0) 9
    ∷ listed 0 31 0 kind.Numeric (pos 0) (pos 0) 1
    ∷ listed 0 31 1 kind.Numeric (pos 0) (pos 0) 8
    ∷ listed 0 31 21 kind.Coded (pos 0) (pos 0) 6
    ∷ []

-- templates: a single element, a group of block numbers, a text of four octets, a temperature whose
-- reference is redefined in 10 bits, and an element with a width of zero
unfoldable pub temperature : Tree
unfolding fxy
temperature = element (fxy 0 12 101) bare

unfoldable pub block : Tree
unfolding fxy
block = element (fxy 0 1 1) bare

unfoldable pub latitude : Tree
unfolding fxy
latitude = element (fxy 0 5 2) bare

unfoldable pub coded_spec : Tree
unfolding fxy
coded_spec = element (fxy 0 31 21) bare

unfoldable pub name : Tree
unfolding fxy
name = element (fxy 0 1 15) bare

unfoldable pub four_letters : Tree
unfolding fxy
four_letters = operator (fxy 2 5 4) bare

unfoldable pub delayed_blocks : Tree
unfolding fxy
delayed_blocks = delayed (fxy 0 31 1) (element (fxy 0 1 1) bare) bare

unfoldable pub redefined : Tree
unfolding fxy
redefined = operator (fxy 2 3 10) (element (fxy 0 12 101) (operator (fxy 2 3 255) (element (fxy 0 12 101) bare)))

unfoldable pub width_of_none : Tree
unfolding fxy
width_of_none = operator (fxy 2 1 121) (element (fxy 0 1 1) bare)

-- an item whose value is a number
abbrev pub numbered : ℕ → ℕ → List ℕ → Draft
numbered line d digits = draft line d (number_token digits)

unfoldable pub plain_bits : Tree → List Subset → Result (List Bool) DraftFault
unfolding table next_item
plain_bits tree subsets = plain_data (next_item table tree) subsets

unfoldable pub packed_to_bits : Tree → List Subset → Result (List Bool) DraftFault
unfolding table next_item
packed_to_bits tree subsets = packed_data (next_item table tree) subsets

-- the first `count` bits of these octets
unfoldable pub ok_bits : List ℕ → ℕ → Result (List Bool) DraftFault
unfolding bits_of
ok_bits octets count = Ok (take count (bits_of octets))

unfoldable pub zeros : ℕ → List ℕ → List ℕ
zeros zero more = more
zeros (suc n) more = 0 ∷ zeros n more

-- the letter A n times, followed by the octet `last`
unfoldable pub letters : ℕ → ℕ → List ℕ
letters zero last = last ∷ []
letters (suc n) last = 65 ∷ letters n last
