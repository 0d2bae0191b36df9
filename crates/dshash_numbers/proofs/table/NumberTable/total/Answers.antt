use Rattle.std.proofs.Common.{◌≡◌, ◌∙◌, length, ap, refl, sym, arith}
use Rattle.std.proofs.lemmas.List.{length-map}
use Rattle.std.specs.List.{sum_by}
use Rattle.dshash_core.specs.Listing.{pairs_of}
use Rattle.dshash_numbers.specs.Numbers.{stepped}
use Rattle.dshash_numbers.proofs.MapCalls.{listed_stays}
use Rattle.dshash_numbers.proofs.Tables.{sum_pairs}
use Rattle.dshash_numbers.proofs.table.NumberTable.total.Goals as goal

pub returns-clause-total : goal.returns-clause-total
returns-clause-total g c =
    let t = c.args.self.now in
    let entries = c.in_ok-entries.entries.items in
    let told = c.in_ok-entries.ensures in
    let long : length (pairs_of entries) ≡ length entries = length-map entries (λ e. (e.key, e.state)) in
    record {
      same = refl;
      pairs = pairs_of entries;
      lists = told.all;
      counted = omega (arith, c.len.ensures, c.in_ok-entries.entries.ok.0, long);
      summed = c.sum_of.ensures ∙ (ap (sum_by (λ e. e.state)) c.as_slice.ensures.value ∙ sym (sum_pairs entries));
      stays = listed_stays stepped t.table t.pass c.list_all.new.pass c.requires.table.alone c.requires.table.own told.own told.caller (pairs_of entries) told.all;
    }
