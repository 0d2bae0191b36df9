use Rattle.std.proofs.Common.{◌∙◌, ◌++◌, ℕ, List, [], ap, sym, get_or, take, append-nil, append_assoc}
use Rattle.std.proofs.lemmas.List.{take_all}
use Rattle.csv.specs.Machine.{field_after, step}
use Rattle.csv.specs.Reading.{default_config}
use Rattle.csv.specs.declared.parser.State.{State}
use Rattle.csv.specs.declared.parser.State.TheVariants as st
use Rattle.csv_rows.specs.Cuts.{state_after}
use Rattle.found_rows.specs.Written.{copied, ends_field}
use Rattle.found_rows.proofs.Copying.{copied-next, none-copied, none-state, state-next, stays-at}
use Rattle.found_rows.proofs.written.copy_field.Goals as goal

pub loop-byte-init : goal.loop-byte-init
loop-byte-init c = record {
  inside = sym (none-state st.StartField);
  bytes = sym (ap (λ (xs : List ℕ). c.args.copied.now.items ++ xs) (none-copied st.StartField) ∙ append-nil c.args.copied.now.items);
}

pub step-next-requires : goal.step-next-requires
step-next-requires c =
    let w = c.args.written.now in
    let i = c.loop-byte.byte-index in
    ap (λ (s : State). ends_field (step default_config s (get_or w i 0)).1) c.loop-byte.invariant.inside ∙ stays-at st.StartField w i c.loop-byte-test.true c.requires

pub loop-byte-preserved : goal.loop-byte-preserved
loop-byte-preserved c =
    let w = c.args.written.now in
    let i = c.loop-byte.byte-index in
    let b = get_or w i 0 in
    let low = c.loop-byte-test.true in
    let inv = c.loop-byte.invariant in
    let old = c.args.copied.now.items in
    let before = copied st.StartField (take i w) in
    record {
      inside = c.step-next.ensures.state ∙ ap (λ (s : State). (step default_config s b).0) inv.inside ∙ sym (state-next st.StartField w i low);
      bytes = c.in_ok-push_if.ensures ∙ (λ j. inv.bytes j ++ c.step-next.ensures.byte j)
          ∙ ap (λ (s : State). (old ++ before) ++ field_after (step default_config s b).1 b []) inv.inside
          ∙ append_assoc old before (field_after (step default_config (state_after st.StartField (take i w)) b).1 b [])
          ∙ ap (λ (xs : List ℕ). old ++ xs) (sym (copied-next st.StartField w i low));
    }

pub returns : goal.returns
returns c =
    c.loop-byte.invariant.bytes ∙ ap (λ (xs : List ℕ). c.args.copied.now.items ++ copied st.StartField xs) (take_all c.loop-byte.byte-index c.args.written.now c.loop-byte-test.false)
