-- Worked examples of command lines, under clap's rules.
use lib.Utf8.{encode}
use Rattle.std.proofs.Common.{◌≡◌, ℕ, List, [], ◌∷◌, map, Option, None, Some, length, refl, ap, arith, codes, option_map}
use Rattle.std.specs.Str.{chars}
use Rattle.clap.specs.Faults.{defaults_fault, flags_fault, walk_fault}
use Rattle.clap.specs.Walk.{bundle_met, walked}
use Rattle.clap.specs.Words.{Text, first_of, fault_of, subcommand_of}
use Rattle.clap.specs.declared.error.kind.ErrorKind.{ErrorKind}
use Rattle.clap.specs.declared.error.kind.ErrorKind.TheVariants.{DisplayHelp, DisplayVersion, MissingRequiredArgument, MissingSubcommand, UnknownArgument, ArgumentConflict, InvalidValue}
use Rattle.bufr_text.specs.declared.encode.Form.{Form}
use Rattle.bufr_text.specs.declared.encode.Form.TheVariants.{AsWritten, Plain, Compressed}
use Rattle.bufr_cli.specs.Prelude.{bufr_app, no_job_text, word_of}
use Rattle.bufr_cli.specs.declared.job.NoJob.TheVariants.{UnknownForm}

-- the faults of a command line of `bufr` under clap's rules
abbrev fault_of_words : List Text → List ErrorKind
fault_of_words words = fault_of bufr_app (codes "bufr" ∷ words)

-- valid command lines
understood : map fault_of_words ((codes "ls" ∷ []) ∷ (codes "ls" ∷ codes "a.bufr" ∷ []) ∷ (codes "dump" ∷ codes "-B" ∷ codes "b.csv" ∷ codes "-D" ∷ codes "d.csv" ∷ [])
    ∷ (codes "encode" ∷ codes "a.txt" ∷ codes "-Dd.csv" ∷ codes "-B=b.csv" ∷ []) ∷ (codes "encode" ∷ codes "-B" ∷ codes "b" ∷ codes "-D" ∷ codes "d" ∷ codes "--form" ∷ codes "plain" ∷ []) ∷ [])
    ≡ [] ∷ [] ∷ [] ∷ [] ∷ [] ∷ []
unfolding walk_fault walked defaults_fault flags_fault bundle_met chars encode
understood = refl

-- command lines that ask for help or the version
-- rule: help, version
asks-help : map fault_of_words ((codes "--help" ∷ []) ∷ (codes "dump" ∷ codes "-h" ∷ []) ∷ (codes "--version" ∷ []) ∷ [])
    ≡ (DisplayHelp ∷ []) ∷ (DisplayHelp ∷ []) ∷ (DisplayVersion ∷ []) ∷ []
unfolding walk_fault walked defaults_fault flags_fault bundle_met chars encode
asks-help = refl

-- a command line without a subcommand
-- rule: usage
no-command : fault_of_words [] ≡ MissingSubcommand ∷ []
unfolding walk_fault walked defaults_fault flags_fault bundle_met chars encode
no-command = refl

-- invalid command lines
-- rule: usage, one-file
refused : map fault_of_words ((codes "dump" ∷ codes "-B" ∷ codes "b.csv" ∷ []) ∷ (codes "ls" ∷ codes "a" ∷ codes "b" ∷ []) ∷ (codes "ls" ∷ codes "-B" ∷ codes "b.csv" ∷ [])
    ∷ (codes "dump" ∷ codes "-B" ∷ codes "b" ∷ codes "-D" ∷ codes "d" ∷ codes "-B" ∷ codes "c" ∷ []) ∷ (codes "encode" ∷ codes "-B" ∷ codes "b" ∷ codes "-D" ∷ codes "d" ∷ codes "--form" ∷ [])
    ∷ (codes "dump" ∷ codes "-B" ∷ codes "b" ∷ codes "-D" ∷ codes "d" ∷ codes "--form" ∷ codes "plain" ∷ [])
    ∷ (codes "encode" ∷ codes "-B" ∷ codes "b" ∷ codes "-D" ∷ codes "d" ∷ codes "--form" ∷ codes "plain" ∷ codes "--form" ∷ codes "plain" ∷ []) ∷ [])
    ≡ (MissingRequiredArgument ∷ []) ∷ (UnknownArgument ∷ []) ∷ (UnknownArgument ∷ []) ∷ (ArgumentConflict ∷ []) ∷ (InvalidValue ∷ []) ∷ (UnknownArgument ∷ []) ∷ (ArgumentConflict ∷ []) ∷ []
unfolding walk_fault walked defaults_fault flags_fault bundle_met chars encode
refused = refl

-- the value of `--form` on a command line of `encode`
abbrev form_in : List Text → Option (Option Text)
form_in words = option_map (λ met. first_of (codes "form") met.1) (subcommand_of bufr_app (codes "bufr" ∷ codes "encode" ∷ codes "-B" ∷ codes "b" ∷ codes "-D" ∷ codes "d" ∷ words))

-- no form, the two forms, and an unknown one, which is found but has no job
forms : map form_in ([] ∷ (codes "--form" ∷ codes "plain" ∷ []) ∷ (codes "--form=compressed" ∷ []) ∷ (codes "--form" ∷ codes "packed" ∷ []) ∷ [])
    ≡ Some (word_of AsWritten) ∷ Some (word_of Plain) ∷ Some (word_of Compressed) ∷ Some (Some (codes "packed")) ∷ []
unfolding walk_fault walked defaults_fault flags_fault bundle_met chars encode
forms = refl

length_of : Option Text → ℕ
length_of None = 0
length_of (Some text) = length text

no-such-form : (form : Form) → word_of form ≡ Some (codes "packed") → ⊥
unfolding length_of
no-such-form AsWritten is = let e : ◌≡◌ {A = ℕ} 0 6 = ap length_of is in omega arith
no-such-form Plain is = let e : ◌≡◌ {A = ℕ} 5 6 = ap length_of is in omega arith
no-such-form Compressed is = let e : ◌≡◌ {A = ℕ} 10 6 = ap length_of is in omega arith

unknown-form-text : no_job_text UnknownForm ≡ codes "error: invalid value for '--form <WORD>'\n  [possible values: plain, compressed]\n\nFor more information, try '--help'.\n"
unknown-form-text = refl
