-- A command with one more argument.
use Rattle.std.proofs.Common.{◌≡◌, ◌∙◌, ℕ, Bool, List, Some, IfOk, Result, ap, false}
use Rattle.std.proofs.lemmas.Result.{IfOk-weaker}
use Rattle.std.specs.Borrow.{Bor}
use Rattle.clap.specs.Words.{AddsArg, App, Rule, app_of, new_rule, rule_of, with_rule}
use Rattle.clap.specs.declared.builder.action.ArgAction.{ArgAction}
use Rattle.clap.specs.declared.builder.arg.Arg.{Arg}
use Rattle.clap.specs.declared.builder.command.Command.{Command}
use Rattle.plan_spec.specs.Options.{option_of}

-- an argument that is not global, by its rule
pub adds : {E : Type 0} (command : Command) (arg : Arg) (rule : Rule) (r : Result Command E) → arg.global ≡ false → rule_of arg ≡ rule → IfOk r (AddsArg command arg)
    → IfOk r (λ c. app_of c ≡ with_rule (app_of command) rule)
adds command arg rule r global is has = IfOk-weaker r _ _ (λ c adds. adds.shape global ∙ ap (with_rule (app_of command)) is) has

-- an argument with a long name, and whether it has to be given, or what it does
pub option_rule : (a : Arg) (name : Bor (List ℕ)) (is_required : Bool) → rule_of a ≡ new_rule name.now → rule_of (record (record a { long = Some name }) { required = is_required }) ≡ option_of name.now is_required
option_rule a name is_required is = ap (λ (r : Rule). record r { long = Some name.now; required = is_required }) is

pub action_rule : (a : Arg) (name : Bor (List ℕ)) (action : ArgAction) → rule_of a ≡ new_rule name.now
    → rule_of (record (record a { long = Some name }) { action = Some action }) ≡ record (new_rule name.now) { long = Some name.now; action = Some action }
action_rule a name action is = ap (λ (r : Rule). record r { long = Some name.now; action = Some action }) is
