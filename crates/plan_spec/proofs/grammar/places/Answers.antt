use Rattle.std.proofs.Common.{rules, ◌≡◌, ◌≤◌, ◌∷◌, [], true, map, sym}
use Rattle.std.proofs.lemmas.List.{map-append}
use Rattle.std.proofs.lemmas.List.Elements.{All-append, All-cons, All-nil}
use Rattle.std.specs.Result.{is_ok}
use Rattle.par_model.specs.declared.plan.TheConstants.{MOST_PLACES}
use Rattle.plan_spec.specs.Given.{entry_of}
use Rattle.plan_spec.specs.Grammar.{entry_in}
use Rattle.plan_spec.specs.declared.grammar.PlacesOf.{PlacesOf}
use Rattle.plan_spec.proofs.Present.{more-read, none-read}
use Rattle.plan_spec.proofs.grammar.places.Goals as goal

pub returns-in_default-entry-clause-none : goal.returns-in_default-entry-clause-none
returns-in_default-entry-clause-none c = λ h.
    let parts = c.as_slice-part-items.result.now in
    rw (← c.in-Ok.ensures, ← c.as_slice-part-items.ensures.value)
    (none-read (λ s. s.now) entry_in parts c.parts.part-index (record { ref_ptr = (0, 0); now = [] }) c.parts-test.true (sym c.in_default-entry.ensures.entry))

pub parts-preserved : goal.parts-preserved
parts-preserved c =
    let inv = c.parts.invariant in
    let good : is_ok c.push.result ≡ true = search rules in
    let items = rw good at c.push.ensures.items in
    let more = map-append entry_of c.parts.places.items (c.in-Some.entry ∷ []) in
    record {
      read = rw (items, more) (more-read (λ s. s.now) entry_in c.as_slice-part-items.result.now c.parts.part-index (record { ref_ptr = (0, 0); now = [] }) (map entry_of c.parts.places.items) (entry_of c.in-Some.entry) c.parts-test.true inv.read (sym c.in-Some.ensures.entry));
      within = rw items (All-append (λ (entry : PlacesOf). entry.places ≤ MOST_PLACES) c.parts.places.items _ inv.within (All-cons (λ (entry : PlacesOf). entry.places ≤ MOST_PLACES) c.in-Some.entry [] c.in-Some.ensures.within (All-nil (λ (entry : PlacesOf). entry.places ≤ MOST_PLACES))));
    }
