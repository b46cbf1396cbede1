use Rattle.std.proofs.Common.{inl, map, refl, string_bytes}
use Rattle.bufr_frame.specs.declared.fault.RunFault.TheVariants.{Memory}
use Rattle.bufr.specs.Calling.{Calls, NoWords}
use Rattle.bufr_cli.specs.declared.outcome.Outcome.TheVariants.{Run}
use Rattle.bufr_cli.proofs.RunLemmas.{opens-none}
use Rattle.bufr.proofs.run_words.Goals as goal

pub returns-in-Err : goal.returns-in-Err
returns-in-Err g c = NoWords c.argument_fault.result c.argument_fault.ensures (opens-none _) refl (c.finish.ensures.prefix, c.finish.ensures.whole, c.finish.ensures.flushes) c.finish.ensures.status

pub returns-in-Ok-words : goal.returns-in-Ok-words
returns-in-Ok-words g c = Calls (map string_bytes c.as_slice.result.now) c.run.ensures

pub returns-in-Err-words : goal.returns-in-Err-words
returns-in-Err-words g c = NoWords (Run Memory) (inl refl) (opens-none _) refl (c.finish-in-Err-words.ensures.prefix, c.finish-in-Err-words.ensures.whole, c.finish-in-Err-words.ensures.flushes)
    c.finish-in-Err-words.ensures.status
