-- Only contracts need this file. What the process does with its command-line arguments (not part
-- of FM 94 BUFR).
use Rattle.std.specs.Prelude.{◌≡◌, ◌⊎◌, ℕ, List, [], Option, codes}
use Rattle.std.specs.Borrow.{Bor}
use Rattle.bufr_frame.specs.declared.fault.RunFault.TheVariants.{Memory}
use Rattle.bufr_cli.specs.Prelude.{InputName, KnownInputs, Opens, Writers, WritesLine, last_line, status_of, RunsProgram}
use Rattle.bufr_cli.specs.declared.outcome.Outcome.{Outcome}
use Rattle.bufr_cli.specs.declared.outcome.Outcome.TheVariants.{Usage, Run}

-- The arguments are not available, because memory ran out or an argument is not valid UTF-8.
abbrev pub IsWordless : Outcome → Type 0
IsWordless outcome =
    (outcome ≡ Run Memory) ⊎ ((text : Bor (List ℕ)) × (outcome ≡ Usage text)
    × (text.now ≡ codes "error: an argument is not UTF-8\n"))

-- What the process does with its arguments. If the arguments are available, the process runs the
-- program with them. Otherwise, it only writes the reason to standard error and exits with the
-- corresponding status.
-- rule: argument-not-utf-8
pub data RunsArguments {Standard File : Type 0} (inputs : KnownInputs Standard File)
    (opened opened' : Option (List InputName)) (before after : Writers) (status : ℕ) : Type 0 where
  Calls : (words : List (List ℕ)) → RunsProgram words inputs opened opened' before after status
      → RunsArguments inputs opened opened' before after status
  NoWords : (outcome : Outcome) → IsWordless outcome → Opens opened opened' []
      → after.output ≡ before.output
      → WritesLine before.errors after.errors (last_line outcome) → status ≡ status_of outcome
      → RunsArguments inputs opened opened' before after status
