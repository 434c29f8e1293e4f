use Rattle.std.proofs.Common.{rules, ◌≡◌, ◌∙◌, ap, subst, refl, true, map, List, []}
use Rattle.clap.specs.Words.{HasKind, Text, app_of, fault_of, is_simple, is_simple_and_free, subcommand_of}
use Rattle.clap.proofs.OnLiterals.{clap_on_literals}
use Rattle.command_words.specs.Asked.{HasNoMode, IsModeOf}
use Rattle.command_words.specs.CommandLine.{lnsd_line}
use Rattle.command_words.proofs.Rows.{in_none, in_some}
use Rattle.command_words.proofs.Told.{of_a_fault, of_no_mode}
use Rattle.command_words.proofs.read.words.Goals as goal

is_simple_line : is_simple_and_free lnsd_line ≡ true
unfolding clap_on_literals
is_simple_line = refl

is_simple_too : is_simple lnsd_line ≡ true
unfolding clap_on_literals
is_simple_too = refl

pub returns-in-Err-clause-usage : goal.returns-in-Err-clause-usage
returns-in-Err-clause-usage c =
    let texts : List Text = map (λ w. w.now) c.args.words.now in
    let app : app_of c.in-Ok.command ≡ lnsd_line = c.in-Ok.ensures in
    let has = c.in-Err.ensures.kinds (ap is_simple_and_free app ∙ is_simple_line) in
    of_a_fault texts c.in-Err.error _ (subst (λ a. HasKind (fault_of a texts) c.in-Err.error) app has) c.usage_of.ensures

pub returns-in-Ok-None-clause-usage : goal.returns-in-Ok-None-clause-usage
returns-in-Ok-None-clause-usage c =
    let texts : List Text = map (λ w. w.now) c.args.words.now in
    let app : app_of c.in-Ok.command ≡ lnsd_line = c.in-Ok.ensures in
    let met = (c.in-Ok-try_get_matches_from_mut.ensures.ok.2 (ap is_simple app ∙ is_simple_too)).1 in
    let none : fault_of (app_of c.in-Ok.command) texts ≡ [] = search rules in
    of_no_mode texts _ (subst (λ a. fault_of a texts ≡ []) app none) (subst HasNoMode (met ∙ ap (λ a. subcommand_of a texts) app) (in_none _ _ _ c.in-Ok-None.field-0-is c.in-Ok-None.ensures)) c.wrong_value.ensures

pub returns-in-Ok-Some-clause-mode : goal.returns-in-Ok-Some-clause-mode
returns-in-Ok-Some-clause-mode c =
    let texts : List Text = map (λ w. w.now) c.args.words.now in
    let app : app_of c.in-Ok.command ≡ lnsd_line = c.in-Ok.ensures in
    let met = (c.in-Ok-try_get_matches_from_mut.ensures.ok.2 (ap is_simple app ∙ is_simple_too)).1 in
    let none : fault_of (app_of c.in-Ok.command) texts ≡ [] = search rules in (
      subst (λ a. IsModeOf a c.in-Ok-Some.mode) (met ∙ ap (λ a. subcommand_of a texts) app) (in_some _ _ _ _ c.in-Ok-Some.field-0-is c.in-Ok-Some.ensures),
      subst (λ a. fault_of a texts ≡ []) app none,
    )
