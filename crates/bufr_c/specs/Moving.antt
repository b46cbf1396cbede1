-- Only contracts need this file. Replacing the offset in a line (not part of FM 94 BUFR).
use Rattle.std.specs.Prelude.{ℕ, List, [], ◌++◌, length, take, drop, decimal, nat_lt, if◌then◌else◌}

-- the line with the given offset in place of the 0 after `offset ` or `offset=`; the result is
-- empty if the line has fewer than eight octets
abbrev pub moved : (offset : ℕ) → List ℕ → List ℕ
moved offset line =
    if nat_lt (length line) 8 then [] else (take 7 line ++ decimal offset) ++ drop 8 line
