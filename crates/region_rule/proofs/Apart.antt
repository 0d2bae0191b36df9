-- Whoever does not hold the word that changes sees no change.
use Rattle.std.proofs.Common.{◌≡◌, ◌≢◌, ℕ, List, slice_set, Option, Some, sym, subst, ◌∙◌, arith}
use Rattle.atomic_table.proofs.Lists.{set_else}
use Rattle.word_map.specs.WordMap.{WordMap, at, Has}
use Rattle.ring_rule.specs.Ring.{Ring, Sending, Receiving, InRing, ArePaired}
use Rattle.ring_rule.proofs.Stored.{sending_set, receiving_set, paired_set}
use Rattle.region_rule.specs.View.{View, Own, Frozen, Sender, Receiver, Done, Spent, Holds, MayShare}
use Rattle.region_rule.specs.Sound.{World, Sees, Agrees, Honest, Beside, Sound}

pub agrees_set : (words : List ℕ) (m : WordMap) (k y : ℕ) → ¬ (Has m k) → Agrees words m → Agrees (slice_set words k y) m
agrees_set words m k y none a j x e = set_else words k j y (λ (s : j ≡ k). none (x, subst (λ (q : ℕ). at m q ≡ Some x) s e)) ∙ a j x e

pub honest_set : (words : List ℕ) (k y : ℕ) (x : View) → ¬ (Holds x k) → Honest words x → Honest (slice_set words k y) x
honest_set words k y (Own m o) none h = (agrees_set words m k y none h.0, h.1)
honest_set words k y (Frozen m) none h = agrees_set words m k y none h
honest_set words k y (Sender s t) none h = sending_set words k y s (λ e. none (omega arith, omega arith)) (λ i l e. none (omega arith, omega arith)) h
honest_set words k y (Receiver q u) none h = receiving_set words k y q (λ e. none (omega arith, omega arith)) h
honest_set words k y (Done m s q) none h = (agrees_set words m k y none h.0, h.1, h.2)
honest_set words k y Spent none h = tt

ends_set : (words : List ℕ) (k y : ℕ) (s : Sending) (t : Option Receiving) (q : Receiving) (u : Option Sending) → (InRing s.ring k → InRing q.ring k → ⊥) → ArePaired words s t q u → ArePaired (slice_set words k y) s t q u
ends_set words k y s t q u none b = paired_set words k y s t q u (λ e. let h : InRing s.ring k = (omega arith, omega arith) in none h (subst (λ (r : Ring). InRing r k) b.tied.same h)) b

share_set : (words : List ℕ) (k y : ℕ) (u v : View) (j : ℕ) → (Holds u k → Holds v k → ⊥) → MayShare words u v j → MayShare (slice_set words k y) u v j
share_set words k y (Frozen m) (Frozen n) j none b = b
share_set words k y (Sender s t) (Receiver q u) j none b = ends_set words k y s t q u none b
share_set words k y (Receiver q u) (Sender s t) j none b = ends_set words k y s t q u (λ f g. none g f) b
share_set words k y u v j none b = absurd b

-- the tokens that may write a word that they hold
abbrev pub Writes : View → Type 0
Writes (Frozen m) = ⊥
Writes u = Unit {0}

-- a word that a writer holds is held by at most one other token
no_third : (words : List ℕ) (u x y : View) (k : ℕ) → Writes u → MayShare words u x k → MayShare words u y k → MayShare words x y k → ⊥
no_third words (Own m o) x y k w a b c = a
no_third words (Frozen m) x y k w a b c = w
no_third words (Sender s t) (Receiver q r) (Receiver p v) k w a b c = c
no_third words (Sender s t) (Receiver q r) y k w a b c = b
no_third words (Sender s t) x y k w a b c = a
no_third words (Receiver q r) (Sender s t) (Sender p v) k w a b c = c
no_third words (Receiver q r) (Sender s t) y k w a b c = b
no_third words (Receiver q r) x y k w a b c = a
no_third words (Done m s q) x y k w a b c = a
no_third words Spent x y k w a b c = a

pub thirds_set : (w : World) (i : ℕ) (u : View) (k n : ℕ) → Sound w → Sees w i u → Writes u → Holds u k
    → (a b : ℕ) (x y : View) → a ≢ i → b ≢ i → a ≢ b → Sees w a x → Sees w b y → Beside w.words x y → Beside (slice_set w.words k n) x y
thirds_set w i u k n s here writes holds a b x y ai bi ab at_a at_b beside j hx hy = share_set w.words k n x y j
    (λ fx fy. no_third w.words u x y k writes (s.apart i a u x (λ e. ai (sym e)) here at_a k holds fx) (s.apart i b u y (λ e. bi (sym e)) here at_b k holds fy) (beside k fx fy))
    (beside j hx hy)
