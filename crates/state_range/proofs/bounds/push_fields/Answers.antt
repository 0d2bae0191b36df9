use Rattle.std.proofs.Common.{◌<◌, ◌++◌, ◌∙◌, ℕ, List, [], ap, append-nil, append_assoc, arith, length, subst, sym, take}
use Rattle.std.proofs.lemmas.List.Elements.{All-more, All-nil}
use Rattle.csv_rows.specs.Records.{record_at}
use Rattle.par_model.specs.Key.{encoded, encoded_field}
use Rattle.state_range.specs.Ranges.{IsShort}
use Rattle.state_range.proofs.Lines.{encoded-none, encoded_more}
use Rattle.state_range.proofs.bounds.push_fields.Goals as goal

pub loop-at-init : goal.loop-at-init
loop-at-init c = record {
  put = sym (ap (λ (t : List ℕ). c.args.key.now.items ++ t) (sym encoded-none) ∙ append-nil c.args.key.now.items);
  short = All-nil IsShort;
}

pub loop-at-preserved : goal.loop-at-preserved
loop-at-preserved c =
    let fields = record_at c.args.store.now 0 in
    let at = c.loop-at.at in
    let key = c.args.key.now.items in
    let lt : at < length fields = omega (arith, c.loop-at-test.true, c.requires.all) in
    record {
      put =
          c.in_ok-push_field.ensures.put
          ∙ ap (λ (t : List ℕ). t ++ encoded_field c.field.result.now) c.loop-at.invariant.put
          ∙ append_assoc key (encoded (take at fields)) (encoded_field c.field.result.now)
          ∙ ap (λ (f : List ℕ). key ++ (encoded (take at fields) ++ encoded_field f)) c.field.ensures
          ∙ ap (λ (t : List ℕ). key ++ t) (sym (encoded_more fields at lt));
      short = All-more IsShort fields at [] lt c.loop-at.invariant.short (subst IsShort c.field.ensures c.in_ok-push_field.ensures.short);
    }
