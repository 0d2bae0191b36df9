use Rattle.std.proofs.Common.{◌++◌, ◌∙◌, Bool, List, Ok, String, ap, codes, map, string_bytes}
use Rattle.std.specs.Global.{Global}
use Rattle.state_head.specs.Words.{words_of}
use Rattle.state_plan.specs.Words.{option_words}
use Rattle.state_plan.proofs.Commands.{no_command, whole_command}
use Rattle.state_plan.proofs.words.command_words.Goals as goal

pub returns-then-are_all : goal.returns-then-are_all
returns-then-are_all c =
    let words = words_of c.args.words in
    let t = c.are_all.ensures.all c.if-are_all.true in
    let first = c.in_ok-group.ensures.put (ap (λ (b : Bool). Ok b) t.0) ∙ ap (λ (ss : List (String Global)). map string_bytes ss ++ option_words (codes "--group=") words.group) c.new-command.ensures.items in
    let filters = c.in_ok-filters.ensures.put (ap (λ (b : Bool). Ok b) t.2) in
    record {
      filters = filters.0;
      have = record { are = filters.1; short = filters.2 };
      is = whole_command words filters.0 _ _ _ _ first (c.in_ok-agg.ensures.put (ap (λ (b : Bool). Ok b) t.1)) filters.3 (c.in_ok-decimals.ensures.put (ap (λ (b : Bool). Ok b) t.3));
    }

pub returns-else-are_all : goal.returns-else-are_all
returns-else-are_all c =
    no_command (words_of c.args.words) c.in_ok-group.group c.in_ok-agg.agg c.in_ok-filters.filters c.in_ok-decimals.decimals (c.are_all.ensures.not_all c.if-are_all.false)
    (λ e. c.in_ok-group.ensures.no_text (ap (λ (b : Bool). Ok b) e)) (λ e. c.in_ok-agg.ensures.no_text (ap (λ (b : Bool). Ok b) e)) (λ e. c.in_ok-filters.ensures.no_texts (ap (λ (b : Bool). Ok b) e)) (λ e. c.in_ok-decimals.ensures.no_text (ap (λ (b : Bool). Ok b) e))
