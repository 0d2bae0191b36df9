-- What every kind of step needs: one token's view changes, or a new token comes, and a world stays sound.
use Rattle.std.proofs.Common.{◌≡◌, ◌≢◌, ℕ, zero, suc, ◌<◌, List, [], ◌∷◌, ◌++◌, set, slice_set, length, refl, sym, ap, subst, ◌∙◌, ⊎_elim}
use mathlib.Core.Option.{some, some-injective}
use mathlib.Core.Logic.{dite}
use native.Mathlib.Decide.{ℕ_discrete}
use lib.ListN.{get_elem?}
use Rattle.atomic_table.proofs.Lists.{at_set, at_snoc, at_longer, at_last, set_here, set_else}
use Rattle.ring_rule.proofs.Stored.{in_list, snoc_place}
use Rattle.region_rule.specs.View.{View, Neither, role, partner}
use Rattle.region_rule.specs.Sound.{World, Sees, AreWords, Honest, Beside, HasPartner, Sound}
use Rattle.region_rule.specs.Steps.{seen_anew}

pub set_swap : {A : Type 0} (l : List A) (i j : ℕ) (a b : A) → j ≢ i → set (set l i a) j b ≡ set (set l j b) i a
set_swap [] i j a b n = refl
set_swap (x ∷ xs) zero zero a b n = absurd (n refl)
set_swap (x ∷ xs) zero (suc j) a b n = refl
set_swap (x ∷ xs) (suc i) zero a b n = refl
set_swap (x ∷ xs) (suc i) (suc j) a b n = ap (λ l. x ∷ l) (set_swap xs i j a b (λ e. n (ap suc e)))

-- partners stay where a token keeps its role
paired_turn : (w : World) (i : ℕ) (u v : View) (words : List ℕ) → ((k : ℕ) (x : View) → Sees w k x → HasPartner w x) → Sees w i u → role v ≡ role u
    → (k : ℕ) (x : View) → Sees record { words = words; views = slice_set w.views i v } k x → HasPartner record { words = words; views = slice_set w.views i v } x
paired_turn w i u v words p here same k x e = ⊎_elim
    (λ (q : (k ≡ i) × (v ≡ x)). go x (ap role (sym q.1) ∙ same) (p i u here))
    (λ (q : (k ≢ i) × Sees w k x). again (p k x q.1))
    (at_set w.views i k v x e)
  where
    put : World
    put = record { words = words; views = slice_set w.views i v }

    now : Sees record { words = words; views = slice_set w.views i v } i v
    now = set_here w.views i v (in_list w.views i u here)

    go : (x : View) → role x ≡ role u → HasPartner w u → HasPartner record { words = words; views = slice_set w.views i v } x
    go x r h = dite (ℕ_discrete h.0 i)
        (λ (s : h.0 ≡ i). (i, v, now, same ∙ (let t : h.1 ≡ u = some-injective h.1 u (sym h.2 ∙ ap (get_elem? w.views) s ∙ here) in ap role (sym t) ∙ h.3 ∙ ap partner (sym r))))
        (λ (n : h.0 ≢ i). (h.0, h.1, set_else w.views i h.0 v n ∙ h.2, h.3 ∙ ap partner (sym r)))

    again : HasPartner w x → HasPartner record { words = words; views = slice_set w.views i v } x
    again h = dite (ℕ_discrete h.0 i)
        (λ (s : h.0 ≡ i). (i, v, now, same ∙ (let t : h.1 ≡ u = some-injective h.1 u (sym h.2 ∙ ap (get_elem? w.views) s ∙ here) in ap role (sym t) ∙ h.3)))
        (λ (n : h.0 ≢ i). (h.0, h.1, set_else w.views i h.0 v n ∙ h.2, h.3))

-- what holds of a world's tokens but for their partners
pub record Plain (w : World) : Type 0 where
  pub fits : AreWords w.words
  pub honest : (i : ℕ) (v : View) → Sees w i v → Honest w.words v
  pub apart : (i j : ℕ) (u v : View) → i ≢ j → Sees w i u → Sees w j v → Beside w.words u v

pub plain : (w : World) → Sound w → Plain w
plain w s = record { fits = s.fits; honest = s.honest; apart = s.apart }

-- one token's view changes
pub turn_plain : (w : World) (i : ℕ) (u v : View) (words : List ℕ) → Plain w → AreWords words → Sees w i u → Honest words v
    → ((j : ℕ) (x : View) → j ≢ i → Sees w j x → Beside w.words u x → Honest w.words x → Honest words x × Beside words v x × Beside words x v)
    → ((a b : ℕ) (x y : View) → a ≢ i → b ≢ i → a ≢ b → Sees w a x → Sees w b y → Beside w.words x y → Beside words x y)
    → Plain record { words = words; views = slice_set w.views i v }
turn_plain w i u v words s fits here own others thirds = record {
  fits = fits;
  honest = λ j x e. ⊎_elim
      (λ (p : (j ≡ i) × (v ≡ x)). subst (Honest words) p.1 own)
      (λ (p : (j ≢ i) × Sees w j x). (others j x p.0 p.1 (s.apart i j u x (λ q. p.0 (sym q)) here p.1) (s.honest j x p.1)).0)
      (at_set w.views i j v x e);
  apart = λ j k x y n e f. ⊎_elim
      (λ (p : (j ≡ i) × (v ≡ x)). ⊎_elim
      (λ (q : (k ≡ i) × (v ≡ y)). absurd (n (p.0 ∙ sym q.0)))
      (λ (q : (k ≢ i) × Sees w k y). subst (λ z. Beside words z y) p.1 (others k y q.0 q.1 (s.apart i k u y (λ r. q.0 (sym r)) here q.1) (s.honest k y q.1)).1)
      (at_set w.views i k v y f))
      (λ (p : (j ≢ i) × Sees w j x). ⊎_elim
      (λ (q : (k ≡ i) × (v ≡ y)). subst (λ z. Beside words x z) q.1 (others j x p.0 p.1 (s.apart i j u x (λ r. p.0 (sym r)) here p.1) (s.honest j x p.1)).2)
      (λ (q : (k ≢ i) × Sees w k y). thirds j k x y p.0 q.0 n p.1 q.1 (s.apart j k x y n p.1 q.1))
      (at_set w.views i k v y f))
      (at_set w.views i j v x e);
}

-- one token's view changes, and it keeps its role
pub turn : (w : World) (i : ℕ) (u v : View) (words : List ℕ) → Sound w → AreWords words → Sees w i u → role v ≡ role u → Honest words v
    → ((j : ℕ) (x : View) → j ≢ i → Sees w j x → Beside w.words u x → Honest w.words x → Honest words x × Beside words v x × Beside words x v)
    → ((a b : ℕ) (x y : View) → a ≢ i → b ≢ i → a ≢ b → Sees w a x → Sees w b y → Beside w.words x y → Beside words x y)
    → Sound record { words = words; views = slice_set w.views i v }
turn w i u v words s fits here same own others thirds =
    let p = turn_plain w i u v words (plain w s) fits here own others thirds in
    record { fits = p.fits; honest = p.honest; apart = p.apart; paired = paired_turn w i u v words s.paired here same }

-- the same where no word changes
pub turn_still : (w : World) (i : ℕ) (u v : View) → Sound w → Sees w i u → role v ≡ role u → Honest w.words v
    → ((j : ℕ) (x : View) → j ≢ i → Sees w j x → Beside w.words u x → Beside w.words v x × Beside w.words x v)
    → Sound (seen_anew w i v)
turn_still w i u v s here same own others = turn w i u v w.words s s.fits here same own
    (λ j x n e b h. let c = others j x n e b in (h, c.0, c.1)) (λ a b x y _ _ _ _ _ c. c)

-- a new token comes
pub arrive_plain : (w : World) (v : View) → Plain w → Honest w.words v
    → ((j : ℕ) (x : View) → Sees w j x → Beside w.words v x × Beside w.words x v)
    → Plain record { words = w.words; views = w.views ++ v ∷ [] }
arrive_plain w v s own others = record {
  fits = s.fits;
  honest = λ j x e. ⊎_elim (λ p. s.honest j x p) (λ (p : v ≡ x). subst (Honest w.words) p own) (at_snoc w.views v x j e);
  apart = λ j k x y n e f. ⊎_elim
      (λ (p : Sees w j x). ⊎_elim
      (λ (q : Sees w k y). s.apart j k x y n p q)
      (λ (q : v ≡ y). subst (λ z. Beside w.words x z) q (others j x p).1)
      (at_snoc w.views v y k f))
      (λ (p : (j ≡ length w.views) × (v ≡ x)). ⊎_elim
      (λ (q : Sees w k y). subst (λ z. Beside w.words z y) p.1 (others k y q).0)
      (λ (q : (k ≡ length w.views) × (v ≡ y)). absurd (n (p.0 ∙ sym q.0)))
      (snoc_place w.views v y k f))
      (snoc_place w.views v x j e);
}

-- a new token comes, which is no end of a ring
pub arrive : (w : World) (v : View) → Sound w → role v ≡ Neither → Honest w.words v
    → ((j : ℕ) (x : View) → Sees w j x → Beside w.words v x × Beside w.words x v)
    → Sound record { words = w.words; views = w.views ++ v ∷ [] }
arrive w v s neither own others =
    let p = arrive_plain w v (plain w s) own others in
    record {
      fits = p.fits;
      honest = p.honest;
      apart = p.apart;
      paired = λ j x e. ⊎_elim
          (λ (p : Sees w j x). let h = s.paired j x p in (h.0, h.1, at_longer w.views (v ∷ []) h.0 h.1 h.2, h.3))
          (λ (p : v ≡ x). (length w.views, v, at_last w.views v (length w.views) refl, neither ∙ sym (ap (λ z. partner (role z)) (sym p) ∙ ap partner neither)))
          (at_snoc w.views v x j e);
    }

-- a store of a number of 64 bits
pub words_set : (words : List ℕ) (k x : ℕ) → AreWords words → x < 18446744073709551616 → AreWords (slice_set words k x)
words_set words k x fits small j y e = ⊎_elim
    (λ (p : (j ≡ k) × (x ≡ y)). subst (λ (n : ℕ). n < 18446744073709551616) p.1 small)
    (λ (p : (j ≢ k) × (get_elem? words j ≡ some y)). fits j y p.1)
    (at_set words k j x y e)
