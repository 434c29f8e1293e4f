-- From the text of clap's answer to why words ask for nothing.
use Rattle.std.proofs.Common.{◌≡◌, List, [], inl, inr, rules}
use Rattle.clap.specs.Words.{HasKind, Text, fault_of, kind_of, subcommand_of}
use Rattle.clap.specs.declared.error.Error.{Error}
use Rattle.clap.specs.declared.error.kind.ErrorKind.TheVariants.{ValueValidation}
use Rattle.command_words.specs.Asked.{HasNoMode, IsShown, IsToldOf, IsUsageOf}
use Rattle.command_words.specs.CommandLine.{lnsd_line}
use Rattle.command_words.specs.declared.mode.Usage.{Usage}
use Rattle.command_words.specs.declared.mode.Usage.TheVariants as usage

pub of_a_fault : (words : List Text) (e : Error) (u : Usage) → HasKind (fault_of lnsd_line words) e
    → IsToldOf (kind_of e) u → IsUsageOf words u
of_a_fault words e (usage.Words text) (inl memory) h = absurd (h.0 memory)
of_a_fault words e (usage.Words text) (inr among) h = inl (kind_of e, among, h.1)
of_a_fault words e (usage.Help text) (inl memory) h = absurd (h.0 memory)
of_a_fault words e (usage.Help text) (inr among) h = (kind_of e, among, h.1)
of_a_fault words e usage.Memory has h = tt

not_shown : IsShown ValueValidation → ⊥
not_shown (inl e) = search rules
not_shown (inr e) = search rules

pub of_no_mode : (words : List Text) (u : Usage) → fault_of lnsd_line words ≡ []
    → HasNoMode (subcommand_of lnsd_line words) → IsToldOf ValueValidation u → IsUsageOf words u
of_no_mode words (usage.Words text) no_fault none h = inr (no_fault, none)
of_no_mode words (usage.Help text) no_fault none h = absurd (not_shown h.1)
of_no_mode words usage.Memory no_fault none h = tt
