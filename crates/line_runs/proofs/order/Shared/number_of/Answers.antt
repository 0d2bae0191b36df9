use Rattle.std.proofs.Common.{◌∙◌, ap, subst, sym}
use Rattle.key_index.specs.Front.{AllBytes, leading}
use Rattle.key_index.proofs.Front.{leading-take}
use Rattle.line_runs.proofs.Numbers.{cut-is}
use Rattle.line_runs.proofs.order.Shared.number_of.Goals as goal

pub returns : goal.returns
returns c =
    let more = c.in_ok-more.more.now in
    let cut = cut-is more c.min.result c.min.ensures in
    record {
      rest = c.in_ok-rest.rest.now;
      is = c.in_ok-rest.ensures;
      more = more;
      column = sym c.split_column.ensures.first ∙ c.in_ok-more.ensures;
      leads = c.number.ensures.number ∙ ap (leading 8) cut ∙ leading-take 8 more;
      bytes = subst AllBytes cut c.number.ensures.bytes;
    }
