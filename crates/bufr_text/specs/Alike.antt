-- Only contracts need this file. The dump lines that are the same in every subset of compressed
-- data, and the items whose lines can differ (our choice).
use Rattle.std.specs.Prelude.{◌≡◌, ◌≤◌, ◌<◌, ◌-◌, ℕ, List, [], ◌∷◌, Ok, length, take, drop, map}
use Rattle.bufr_tables.specs.Prelude.{Row}
use Rattle.bufr_walk.specs.Prelude.{Content, Item, PackedValues, Read, IsPackedOf, items_between}
use Rattle.bufr_text.specs.Dump.{item_text, items_shown, text_of_lines}
use Rattle.bufr_text.specs.Writing.{LineModel, Pushes}
use Rattle.bufr_text.specs.declared.alike.Stretch.{Stretch}

-- the dump lines for the given items, as text
abbrev pub item_lines : List Row → List (Item Content) → List ℕ
item_lines table items = text_of_lines (map item_text (items_shown table items))

-- the dump lines for the items in `from..to` of one subset, as text; subsets are numbered from 0
abbrev pub lines_between : PackedValues → (subset from to : ℕ) → List ℕ
lines_between p j from to = item_lines p.table (items_between p j from to)

-- The lines for the items in `from..to` are the same in every subset, and they were appended
-- without an error.
pub record PushesAlike (p : PackedValues) (from to : ℕ) (before after : LineModel) : Type 0 where
  pub order : from ≤ to
  pub within : to ≤ length p.items
  pub pushes : Pushes before (lines_between p 0 from to) after
  pub status : after.status ≡ Ok tt
  pub alike : (j : ℕ) → j < p.subsets → lines_between p j from to ≡ lines_between p 0 from to

-- A stretch is a range of items, `index..s.to`. The lines for its items before `s.from` are the
-- same in every subset, and `text[at..s.end]` contains them.
pub record IsStretch (p : PackedValues) (text : List ℕ) (index at : ℕ) (s : Stretch) : Type 0 where
  pub first : index ≤ s.from
  pub order : s.from ≤ s.to
  pub within : s.to ≤ length p.items
  pub start : at ≤ s.end
  pub ends : s.end ≤ length text
  pub alike : (j : ℕ) → j < p.subsets
      → take (s.end - at) (drop at text) ≡ lines_between p j index s.from

-- The stretches cover all items from `index` on, and `text[at..]` begins with their shared lines.
abbrev pub AreStretches : PackedValues → (text : List ℕ) → (index at : ℕ) → List Stretch → Type 0
AreStretches p text index at [] = length p.items ≤ index
AreStretches p text index at (s ∷ more) =
    IsStretch p text index at s × AreStretches p text s.to s.end more

-- The stretches, if any, cover all items read from the message.
abbrev pub AreGathered : Read → (text : List ℕ) → List Stretch → Type 0
AreGathered r text stretches = (p : PackedValues) → IsPackedOf p r → 0 < length stretches
    → AreStretches p text 0 0 stretches
