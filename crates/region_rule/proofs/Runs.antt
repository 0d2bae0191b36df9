-- Every run leads to a sound world, and a step goes on from where a run led.
use Rattle.std.proofs.Common.{◌≡◌, ℕ, zero, suc, List, [], ◌∷◌, ◌++◌, length, replicate, refl, sym, ap, subst, ◌∙◌, arith, length-set}
use mathlib.Core.Option.{some-injective, some-ne-none}
use Rattle.region_rule.specs.View.{View}
use Rattle.region_rule.specs.Sound.{World, AreWords, Sound}
use Rattle.region_rule.specs.Steps.{Event, Load, Store, Split, Join, Freeze, Share, LoadFrozen, EndShare, Gather, MakeRing, LoadRead, StoreData, StoreWritten, LoadWritten, LoadData, StoreRead, StoreSenderFlag, StoreReceiverFlag, LoadSenderFlag, LoadReceiverFlag, LoadWrittenLast, JoinEnds, LoadDone, EndDone, PartAgain, Happens, Run, opening, Reached}
use Rattle.region_rule.proofs.Keeps.{keeps}
use Rattle.region_rule.proofs.Owners.{opens}

pub run_keeps : (events : List Event) (before after : World) → Sound before → Run events before after → Sound after
run_keeps [] before after s r = subst Sound r s
run_keeps (e ∷ es) before after s r = run_keeps es r.0 after (keeps e before r.0 s r.1) r.2

pub run_on : (events : List Event) (e : Event) (before between after : World) → Run events before between → Happens e between after → Run (events ++ e ∷ []) before after
run_on [] e before between after r h = (after, subst (λ w. Happens e w after) (sym r) h, refl)
run_on (f ∷ fs) e before between after r h = (r.0, r.1, run_on fs e r.0 between after r.2 h)

zeros_fit : (n : ℕ) → AreWords (replicate n 0)
zeros_fit zero k x e = absurd (some-ne-none x (sym e))
zeros_fit (suc n) zero x e = let z : 0 ≡ x = some-injective 0 x e in omega arith
zeros_fit (suc n) (suc k) x e = zeros_fit n k x e

pub reached_sound : (count : ℕ) (words : List ℕ) (views : List View) → Reached count words views → Sound record { words = words; views = views }
reached_sound count words views r = run_keeps r.0 (opening (replicate count 0)) record { words = words; views = views } (opens (replicate count 0) (zeros_fit count)) r.1

pub reaches : (count : ℕ) (words : List ℕ) (views : List View) (e : Event) (words' : List ℕ) (views' : List View) → Reached count words views
    → Happens e record { words = words; views = views } record { words = words'; views = views' } → Reached count words' views'
reaches count words views e words' views' r h =
    (r.0 ++ e ∷ [], run_on r.0 e (opening (replicate count 0)) record { words = words; views = views } record { words = words'; views = views' } r.1 h)

-- no step changes the number of words
happens-length : (e : Event) (before after : World) → Happens e before after → length after.words ≡ length before.words
happens-length (Load i k x) before after h = ap (λ (w : World). length w.words) h.4
happens-length (Store i k x) before after h = ap (λ (w : World). length w.words) h.5 ∙ length-set {A = ℕ} before.words _ _
happens-length (Split i from len) before after h = ap (λ (w : World). length w.words) h.3
happens-length (Join i j) before after h = ap (λ (w : World). length w.words) h.7
happens-length (Freeze i k x) before after h = ap (λ (w : World). length w.words) h.4
happens-length (Share i) before after h = ap (λ (w : World). length w.words) h.2
happens-length (LoadFrozen i k x) before after h = ap (λ (w : World). length w.words) h.3
happens-length (EndShare i j) before after h = ap (λ (w : World). length w.words) h.4
happens-length (Gather i j) before after h = ap (λ (w : World). length w.words) h.5
happens-length (MakeRing i r) before after h = ap (λ (w : World). length w.words) h.4
happens-length (LoadRead i x) before after h = ap (λ (w : World). length w.words) h.7
happens-length (StoreData i x) before after h = ap (λ (w : World). length w.words) h.7 ∙ length-set {A = ℕ} before.words _ _
happens-length (StoreWritten i) before after h = ap (λ (w : World). length w.words) h.4 ∙ length-set {A = ℕ} before.words _ _
happens-length (LoadWritten i x) before after h = ap (λ (w : World). length w.words) h.8
happens-length (LoadData i x) before after h = ap (λ (w : World). length w.words) h.6
happens-length (StoreRead i) before after h = ap (λ (w : World). length w.words) h.4 ∙ length-set {A = ℕ} before.words _ _
happens-length (StoreSenderFlag i) before after h = ap (λ (w : World). length w.words) h.4 ∙ length-set {A = ℕ} before.words _ _
happens-length (StoreReceiverFlag i) before after h = ap (λ (w : World). length w.words) h.4 ∙ length-set {A = ℕ} before.words _ _
happens-length (LoadSenderFlag i x) before after h = ap (λ (w : World). length w.words) h.5
happens-length (LoadReceiverFlag i x) before after h = ap (λ (w : World). length w.words) h.5
happens-length (LoadWrittenLast i x) before after h = ap (λ (w : World). length w.words) h.8
happens-length (JoinEnds i j) before after h = ap (λ (w : World). length w.words) h.8
happens-length (LoadDone i k x) before after h = ap (λ (w : World). length w.words) h.5
happens-length (EndDone i k x) before after h = ap (λ (w : World). length w.words) h.5
happens-length (PartAgain i) before after h = ap (λ (w : World). length w.words) h.4

run-length : (events : List Event) (before after : World) → Run events before after → length after.words ≡ length before.words
run-length [] before after r = ap (λ (w : World). length w.words) (sym r)
run-length (e ∷ es) before after r = run-length es r.0 after r.2 ∙ happens-length e before r.0 r.1

pub zeros-length : (n : ℕ) → length {A = ℕ} (replicate n 0) ≡ n
zeros-length zero = refl
zeros-length (suc n) = ap suc (zeros-length n)

pub reached-length : (count : ℕ) (words : List ℕ) (views : List View) → Reached count words views → length words ≡ count
reached-length count words views r = run-length r.0 (opening (replicate count 0)) record { words = words; views = views } r.1 ∙ zeros-length count
