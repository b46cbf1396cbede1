-- Which subcommands have no job, and what an error of clap reports.
use Rattle.std.proofs.Common.{◌≡◌, ◌≢◌, List, Some, inl, inr, Option, None, sym, subst, ◌⊎◌, IfNone}
use Rattle.clap.specs.Words.{HasKind, IsAmong, Kinds, Row, Text}
use Rattle.clap.specs.Values.{kind_of}
use Rattle.clap.specs.declared.error.Error.{Error}
use Rattle.clap.specs.declared.error.kind.ErrorKind.{ErrorKind}
use Rattle.clap.specs.declared.error.kind.ErrorKind.TheVariants.{DisplayHelp, DisplayVersion, OutOfMemory}
use Rattle.bufr_cli.specs.Prelude.{SaysWhy}
use Rattle.bufr_cli.specs.declared.job.LineFault.{LineFault}
use Rattle.bufr_cli.specs.declared.job.LineFault.TheVariants.{Help, Usage, Memory}

-- ---- Optional values.

-- A fact that is always true is also true if there is no value.
pub if-none : {A : Type 0} (o : Option A) (P : Type 0) → P → IfNone o P
if-none None P p = p
if-none (Some x) P p = tt

pub no-some : {A : Type 0} (x : A) → Some x ≡ None → ⊥
no-some {A} x same =
    let P : Option A → Type 0 = λ o. IsThere o in
    subst P same tt
  where
    IsThere : Option A → Type 0
    IsThere None = ⊥
    IsThere (Some y) = Unit {0}

-- Running out of memory is not a request for help or the version.
abbrev IsShown : ErrorKind → Type 0
IsShown DisplayHelp = Unit {0}
IsShown DisplayVersion = Unit {0}
IsShown _ = ⊥

not-shown : (k : ErrorKind) {kind : ErrorKind} → kind ≡ k → kind ≡ OutOfMemory → IsShown k → ⊥
not-shown k shown memory is = subst IsShown memory (subst IsShown (sym shown) is)

-- the fault that an error of this kind may cause; without memory for its text, that is `Memory`
abbrev pub ReportsKind : ErrorKind → LineFault → Type 0
ReportsKind kind (Help text) = (kind ≡ DisplayHelp) ⊎ (kind ≡ DisplayVersion)
ReportsKind kind (Usage text) = (kind ≢ OutOfMemory) × (kind ≢ DisplayHelp) × (kind ≢ DisplayVersion)
ReportsKind kind Memory = Unit {0}

-- what an error of clap reports about the command line
pub reported-why : (kinds : Kinds) (e : Error) (met : Option (Text × List Row)) (fault : LineFault) → HasKind kinds e → ReportsKind (kind_of e) fault → SaysWhy kinds met fault
reported-why kinds e met (Help text) (inl memory) (inl shown) = absurd (not-shown DisplayHelp shown memory tt)
reported-why kinds e met (Help text) (inl memory) (inr shown) = absurd (not-shown DisplayVersion shown memory tt)
reported-why kinds e met (Help text) (inr among) (inl shown) = inl (subst (λ kind. IsAmong kind kinds) shown among)
reported-why kinds e met (Help text) (inr among) (inr shown) = inr (subst (λ kind. IsAmong kind kinds) shown among)
reported-why kinds e met (Usage text) (inl memory) results = absurd (results.0 memory)
reported-why kinds e met (Usage text) (inr among) results = inl (kind_of e, among, results.1, results.2)
reported-why kinds e met Memory has results = tt
