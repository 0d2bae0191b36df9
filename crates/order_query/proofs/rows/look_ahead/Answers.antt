use Rattle.std.proofs.Common.{◌≡◌, ◌≢◌, ◌<◌, ◌≤◌, ◌+◌, ◌⊎◌, ◌∙◌, Bool, ℕ, List, ap, arith, false, get_or, inl, inr, length, set, subst, sym, true}
use Rattle.std.proofs.lemmas.Bool.{cases_lt}
use Rattle.std.proofs.lemmas.List.{get_or-set_other, get_or-set_same, get_or_past, length-set}
use Rattle.std.proofs.lemmas.List.Elements.{All-get_or}
use Rattle.csv_rows.specs.Records.{record_at}
use Rattle.answer_text.specs.Special.{BeginsSpecial}
use Rattle.order_query.specs.Pieces.{AreKnown}
use Rattle.order_query.proofs.rows.look_ahead.Goals as goal

no : false ≡ true → ⊥
no e = cc

-- one row more
known-more : (records : List (List (List ℕ))) (numbers : List ℕ) (begins : List Bool) (n : ℕ) (b : Bool) → AreKnown records numbers begins n → (b ≡ true → BeginsSpecial (record_at records (get_or numbers n 0)))
    → AreKnown records numbers (set begins n b) (n + 1)
known-more records numbers begins n b a h k m e = by (cases_lt k n) (cases_lt n (length begins))
  where
    by : (k < n) ⊎ (n ≤ k) → (n < length begins) ⊎ (length begins ≤ n) → BeginsSpecial (record_at records (get_or numbers k 0))
    by (inl before) p =
        let other : k ≢ n = λ (same : k ≡ n). absurd (omega (arith, before, same)) in
        a k before (sym (get_or-set_other begins n k b false other) ∙ e)
    by (inr last) (inl l) =
        let same : n ≡ k = omega (arith, m, last) in
        subst (λ (i : ℕ). BeginsSpecial (record_at records (get_or numbers i 0))) same (h (sym (get_or-set_same begins n b false l) ∙ ap (λ (i : ℕ). get_or (set begins n b) i false) same ∙ e))
    by (inr last) (inr past) =
        let same : n ≡ k = omega (arith, m, last) in
        let none : get_or (set begins n b) n false ≡ false = get_or_past (set begins n b) n false (omega (arith, past, length-set begins n b)) in
        absurd (no (sym none ∙ ap (λ (i : ℕ). get_or (set begins n b) i false) same ∙ e))

pub loop-place-init : goal.loop-place-init
loop-place-init c = record { known = λ k l. absurd (omega (arith, l)) }

pub find-requires : goal.find-requires
find-requires c =
    let within : ℕ → Type 0 = λ row. row < length c.args.rows.now in
    let lt : c.loop-place.place < length c.args.numbers.now = omega (arith, c.loop-place-test.true) in
    All-get_or within c.args.numbers.now c.loop-place.place 0 lt c.requires.rows

pub loop-place-preserved : goal.loop-place-preserved
loop-place-preserved c =
    record {
      known = known-more c.args.rows.now c.args.numbers.now c.loop-place.begins c.loop-place.place c.begins_special.result c.loop-place.invariant.known (λ e. subst BeginsSpecial c.find.ensures (c.begins_special.ensures e));
    }
