-- A store in a word of the region, for an end to which the word does not belong; and a few facts about lists.
use Rattle.std.proofs.Common.{◌≡◌, ◌≢◌, ◌⊎◌, ℕ, zero, suc, ◌+◌, ◌<◌, ◌≤◌, true, List, [], ◌∷◌, ◌++◌, slice_set, length, Option, Some, None, IfSome, refl, sym, ap, ◌∙◌, inl, inr, ⊎_elim, arith, le_trans}
use mathlib.Core.Option.{some, some-injective, some-ne-none}
use lib.ListN.{get_elem?}
use Rattle.atomic_table.proofs.Lists.{set_else}
use Rattle.ring_rule.specs.Ring.{Ring, Sending, Receiving, IsSending, IsReceiving, ArePaired, WasReceiving, WasSending}

pub in_list : {A : Type 0} (l : List A) (k : ℕ) (a : A) → get_elem? l k ≡ some a → k < length l
in_list [] k a e = absurd (some-ne-none a (sym e))
in_list (x ∷ xs) zero a e = omega arith
in_list (x ∷ xs) (suc k) a e = omega (arith, in_list xs k a e)

pub has_at : {A : Type 0} (l : List A) (i : ℕ) → i < length l → (a : A) × (get_elem? l i ≡ some a)
has_at [] i h = absurd (omega arith)
has_at (x ∷ xs) zero h = (x, refl)
has_at (x ∷ xs) (suc i) h = has_at xs i (omega arith)

-- where an entry of a list with one more at its end stands
pub snoc_place : {A : Type 0} (l : List A) (a b : A) (j : ℕ) → get_elem? (l ++ a ∷ []) j ≡ some b → (get_elem? l j ≡ some b) ⊎ ((j ≡ length l) × (a ≡ b))
snoc_place [] a b zero e = inr (refl, some-injective a b e)
snoc_place [] a b (suc j) e = absurd (some-ne-none b (sym e))
snoc_place (x ∷ xs) a b zero e = inl e
snoc_place (x ∷ xs) a b (suc j) e = ⊎_elim (λ t. inl t) (λ (t : (j ≡ length xs) × (a ≡ b)). inr (ap suc t.0, t.1)) (snoc_place xs a b j e)

pub receiving_set : (words : List ℕ) (k n : ℕ) (q : Receiving) → k ≢ q.ring.base + 1 → IsReceiving words q → IsReceiving (slice_set words k n) q
receiving_set words k n q other h = record { own = h.own; read = set_else words k (q.ring.base + 1) n (λ e. other (sym e)) ∙ h.read }

pub sending_set : (words : List ℕ) (k n : ℕ) (s : Sending) → k ≢ s.ring.base → ((i : ℕ) → i < s.ring.size → k ≢ s.ring.base + 3 + i) → IsSending words s → IsSending (slice_set words k n) s
sending_set words k n s count cells h = record {
  own = h.own;
  written = set_else words k s.ring.base n (λ e. count (sym e)) ∙ h.written;
  stored = λ i x e.
      let l = in_list s.cells i x e in
      let c = h.own.counted in
      set_else words k (s.ring.base + 3 + i) n (λ f. cells i (omega arith) (sym f)) ∙ h.stored i x e;
}

pub paired_set : (words : List ℕ) (k n : ℕ) (s : Sending) (t : Option Receiving) (q : Receiving) (u : Option Sending) → k ≢ s.ring.base + 2 → ArePaired words s t q u → ArePaired (slice_set words k n) s t q u
paired_set words k n s t q u other p = record {
  tied = p.tied;
  flag = set_else words k (s.ring.base + 2) n (λ e. other (sym e)) ∙ p.flag;
  told_sender = p.told_sender;
  told_receiver = p.told_receiver;
}

pub same_base : (s : Sending) (q : Receiving) → s.ring ≡ q.ring → s.ring.base ≡ q.ring.base
same_base s q e = ap (λ (r : Ring). r.base) e

-- what was told stays told
pub told_sending : (u : Option Sending) (s s' : Sending) → s.ring ≡ s'.ring → s.published ≤ s'.published → s.room ≤ s'.room → (s.gone ≡ true → s'.gone ≡ true)
    → IfSome u (λ old. WasSending old s) → IfSome u (λ old. WasSending old s')
told_sending (Some old) s s' r a b c h = record { ring = h.ring ∙ r; published = le_trans h.published a; room = le_trans h.room b; gone = λ g. c (h.gone g) }
told_sending None s s' r a b c h = tt

pub told_receiving : (t : Option Receiving) (q q' : Receiving) → q.ring ≡ q'.ring → q.returned ≤ q'.returned → q.avail ≤ q'.avail → (q.gone ≡ true → q'.gone ≡ true)
    → IfSome t (λ old. WasReceiving old q) → IfSome t (λ old. WasReceiving old q')
told_receiving (Some old) q q' r a b c h = record { ring = h.ring ∙ r; returned = le_trans h.returned a; avail = le_trans h.avail b; gone = λ g. c (h.gone g) }
told_receiving None q q' r a b c h = tt
