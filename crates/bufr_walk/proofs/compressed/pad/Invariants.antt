use Rattle.std.proofs.Common.{◌≡◌, ◌-◌, ◌++◌, take, replicate}
use Rattle.bufr_walk.proofs.compressed.pad.Given as goal

abbrev pub invariant-spaces : goal.invariant-spaces
invariant-spaces l = take l.index l.text ≡ take l.from l.fn.text ++ replicate (l.index - l.from) 32
