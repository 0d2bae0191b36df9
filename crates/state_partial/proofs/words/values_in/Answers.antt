use Rattle.std.proofs.Common.{◌∙◌, ℕ, Global, Vec, ap, codes, option_map, sym}
use Rattle.clap.proofs.WalkLemmas.{first_value-rows}
use Rattle.clap.specs.Words.{found_of, rows_of}
use Rattle.state_partial.specs.declared.words.Given.{Given}
use Rattle.state_partial.proofs.Commands.{values_are}
use Rattle.state_partial.proofs.words.values_in.Goals as goal

pub returns : goal.returns
returns c =
    let found = found_of c.args.matches.now in
    let filters = ap (option_map (λ (all : Vec ℕ Global). all.items)) (sym c.in-Some.is) ∙ c.in_ok-read.ensures in
    let g : Given = record { group = c.get_str.result; agg = c.get_str-2.result; decimals = c.get_str-3.result; filters = c.in-Some.filters; workers = c.get_str-4.result; source = c.get_str-5.result; bytes = c.get_str-6.result; size = c.get_str-7.result } in
    values_are (rows_of found) g filters (c.get_str.ensures ∙ first_value-rows found (codes "group")) (c.get_str-2.ensures ∙ first_value-rows found (codes "agg"))
    (c.get_str-3.ensures ∙ first_value-rows found (codes "decimals")) (c.get_str-4.ensures ∙ first_value-rows found (codes "workers")) (c.get_str-5.ensures ∙ first_value-rows found (codes "source"))
    (c.get_str-6.ensures ∙ first_value-rows found (codes "bytes")) (c.get_str-7.ensures ∙ first_value-rows found (codes "size"))
