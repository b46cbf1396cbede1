-- Worked examples, computed from the definitions.
use Rattle.std.proofs.Common.{◌≡◌, true, false, Ok, Err, pos, negsuc, [], ◌∷◌, ◌++◌, refl, replicate, codes}
use Rattle.std.specs.Fmt.{digits}
use Rattle.bufr_bits.specs.Prelude.{decimal_text_of, unsigned_text, decimal_value_of, bits_of, bits_in, bits_at, number_of, are_all_ones, padding}
use Rattle.bufr_bits.specs.declared.decimal.NumberFault.TheVariants.{Syntax, Inexact, Large}

-- rule: decimal-sign, decimal-zeros-after, decimal-point
texts :
    (decimal_text_of (negsuc 4) (pos 2) ≡ codes "-0.05")
    × (decimal_text_of (pos 288) (negsuc 1) ≡ codes "28800")
    × (decimal_text_of (pos 0) (pos 2) ≡ codes "0.00")
    × (decimal_text_of (pos 0) (negsuc 1) ≡ codes "0")
    × (decimal_text_of (pos 28815) (pos 2) ≡ codes "288.15")
unfolding decimal_text_of unsigned_text digits
texts = (refl, refl, refl, refl, refl)

-- rule: decimal-form, inexact-before-too-large
values :
    (decimal_value_of (codes "28850") (negsuc 1) ≡ Err Inexact)
    × (decimal_value_of (codes "28800") (negsuc 1) ≡ Ok (pos 288))
    × (decimal_value_of (codes "-288.150") (pos 2) ≡ Ok (negsuc 28814))
    × (decimal_value_of (codes "288.155") (pos 2) ≡ Err Inexact)
    × (decimal_value_of (codes "1e3") (pos 0) ≡ Err Syntax)
    × (decimal_value_of (codes "-") (pos 0) ≡ Err Syntax)
    × (decimal_value_of (codes "1.") (pos 0) ≡ Err Syntax)
    × (decimal_value_of (codes ".5") (pos 1) ≡ Err Syntax)
    × (decimal_value_of (codes "-0") (pos 0) ≡ Ok (pos 0))
    × (decimal_value_of (replicate 40 57) (pos 0) ≡ Err Large)
    -- An inexact number is reported before one that is too large.
    × (decimal_value_of (replicate 400 57) (negsuc 0) ≡ Err Inexact)
    -- Digits that a low scale removes do not make a number too large.
    × (decimal_value_of (49 ∷ replicate 300 48) (negsuc 299) ≡ Ok (pos 1))
unfolding decimal_value_of
values = (refl, refl, refl, refl, refl, refl, refl, refl, refl, refl, refl, refl)

-- an optional minus sign and at least one digit, then optionally a point and at least one digit
-- rule: decimal-form
forms :
    (decimal_value_of (codes "0") (pos 0) ≡ Ok (pos 0))
    × (decimal_value_of (codes "9.0") (pos 0) ≡ Ok (pos 9))
    × (decimal_value_of (codes "-007.50") (pos 1) ≡ Ok (negsuc 74))
    × (decimal_value_of [] (pos 0) ≡ Err Syntax)
    × (decimal_value_of (codes "+1") (pos 0) ≡ Err Syntax)
    × (decimal_value_of (codes "--1") (pos 0) ≡ Err Syntax)
    × (decimal_value_of (codes "1-") (pos 0) ≡ Err Syntax)
    × (decimal_value_of (codes "1.") (pos 0) ≡ Err Syntax)
    × (decimal_value_of (codes "1.2.3") (pos 2) ≡ Err Syntax)
    × (decimal_value_of (codes "-.5") (pos 1) ≡ Err Syntax)
    × (decimal_value_of (codes "1/") (pos 0) ≡ Err Syntax)
    × (decimal_value_of (codes "1:") (pos 0) ≡ Err Syntax)
unfolding decimal_value_of
forms = (refl, refl, refl, refl, refl, refl, refl, refl, refl, refl, refl, refl)

-- A number that is not whole at the scale is inexact.
whole-or-inexact :
    (decimal_value_of (codes "0.5") (pos 1) ≡ Ok (pos 5))
    × (decimal_value_of (codes "0.50") (pos 1) ≡ Ok (pos 5))
    × (decimal_value_of (codes "0.05") (pos 1) ≡ Err Inexact)
    × (decimal_value_of (codes "0.5") (pos 0) ≡ Err Inexact)
    × (decimal_value_of (codes "10") (negsuc 0) ≡ Ok (pos 1))
    × (decimal_value_of (codes "1") (negsuc 0) ≡ Err Inexact)
    × (decimal_value_of (codes "0") (negsuc 0) ≡ Ok (pos 0))
unfolding decimal_value_of
whole-or-inexact = (refl, refl, refl, refl, refl, refl, refl)

-- The range is from -2^127 to 2^127 - 1.
greatest-numbers :
    (decimal_value_of (codes "170141183460469231731687303715884105727") (pos 0) ≡ Ok (pos 170141183460469231731687303715884105727))
    × (decimal_value_of (codes "170141183460469231731687303715884105728") (pos 0) ≡ Err Large)
    × (decimal_value_of (codes "-170141183460469231731687303715884105728") (pos 0) ≡ Ok (negsuc 170141183460469231731687303715884105727))
    × (decimal_value_of (codes "-170141183460469231731687303715884105729") (pos 0) ≡ Err Large)
unfolding decimal_value_of
greatest-numbers = (refl, refl, refl, refl)

-- Of two faults, the syntax is reported first, then an inexact number, then one that is too large.
-- rule: decimal-form, inexact-before-too-large
order-of-number-faults :
    (decimal_value_of (codes "0.5x") (pos 0) ≡ Err Syntax)
    × (decimal_value_of (replicate 40 57 ++ codes "x") (pos 0) ≡ Err Syntax)
    × (decimal_value_of (replicate 40 57 ++ codes ".5") (pos 0) ≡ Err Inexact)
unfolding decimal_value_of
order-of-number-faults = (refl, refl, refl)

-- 5 in three bits, then the octet AB, then padding: B5 60
-- rule: bit-order, field-number
bits :
    (bits_in 5 3 ++ bits_of (171 ∷ []) ++ padding 11 ≡ bits_of (181 ∷ 96 ∷ []))
    × (number_of (bits_at (181 ∷ 96 ∷ []) 3 8) ≡ 171)
    × (are_all_ones (bits_at (255 ∷ 254 ∷ []) 0 15) ≡ true)
    × (are_all_ones (bits_at (255 ∷ 254 ∷ []) 0 16) ≡ false)
unfolding bits_of bits_in
bits = (refl, refl, refl, refl)
