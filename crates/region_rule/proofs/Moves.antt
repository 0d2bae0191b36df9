-- The words of a region stay where their tokens look for them: when a token steps and touches the words and the slot of
-- one number, when only its view changes, and when a new token comes.
use Rattle.std.proofs.Common.{◌≡◌, ◌≢◌, ℕ, zero, suc, ◌+◌, ◌<◌, ◌≤◌, List, [], ◌∷◌, ◌++◌, set, length, refl, sym, ap, subst, ◌∙◌, ⊎_elim, arith}
use Rattle.std.specs.List.{AllByRecursion}
use mathlib.Core.Option as opt
use mathlib.Core.Option.{some, none, some-injective, some-ne-none}
use mathlib.Core.Logic.{dite}
use native.Mathlib.Decide.{ℕ_discrete}
use lib.ListN.{get_elem?}
use Rattle.atomic_table.specs.Table.{State}
use Rattle.atomic_table.proofs.Lists.{at_set, set_here, set_else}
use Rattle.ring_rule.proofs.Stored.{in_list, snoc_place}
use Rattle.region_rule.specs.View.{View, Own, Frozen, Sender, Receiver, Done, Spent}
use Rattle.region_rule.specs.Places.{Token, idle, copying, views_of, InSlot, InWord, MayTake, Copied, MayHave, IsOut, IsCopied, Clear, Nobody, Placed}

pub map_set : (ts : List Token) (i : ℕ) (t : Token) → views_of (set ts i t) ≡ set (views_of ts) i t.view
map_set [] i t = refl
map_set (x ∷ xs) zero t = refl
map_set (x ∷ xs) (suc i) t = ap (λ l. x.view ∷ l) (map_set xs i t)

pub map_snoc : (ts : List Token) (t : Token) → views_of (ts ++ t ∷ []) ≡ views_of ts ++ t.view ∷ []
map_snoc [] t = refl
map_snoc (x ∷ xs) t = ap (λ l. x.view ∷ l) (map_snoc xs t)

-- two lists are the same but at k
abbrev pub Same : {A : Type 0} → List A → List A → ℕ → Type 0
Same l m k = (q : ℕ) → q ≢ k → get_elem? m q ≡ get_elem? l q

-- the token does not care what is at k
abbrev pub Away : Token → ℕ → Type 0
Away t k = (MayTake t.view k → ⊥) × (t.from ≤ k → k < t.from + t.copied → ⊥)

-- what holds of each slot holds of it in another way too
pub each_too : (P Q : ℕ × ℕ → Type 0) (out : List (ℕ × ℕ)) → ((p : ℕ × ℕ) → P p → Q p) → AllByRecursion P out → AllByRecursion Q out
each_too P Q [] f a = tt
each_too P Q (p ∷ ps) f a = (f p a.0, each_too P Q ps f a.1)

-- a token that may not take a slot has it not out
pub not_out : (words : List ℕ) (v : View) (k : ℕ) (out : List (ℕ × ℕ)) → (MayTake v k → ⊥) → AllByRecursion (MayHave words v) out → Clear out k
not_out words v k out never a = each_too (MayHave words v) (λ (p : ℕ × ℕ). p.0 ≢ k) out (λ p h e. never (subst (MayTake v) e h.0)) a

-- what a token has out are still the region's words if only another word changes
still_out : (words words' : List ℕ) (v : View) (k : ℕ) (out : List (ℕ × ℕ)) → Same words words' k → (MayTake v k → ⊥) → AllByRecursion (MayHave words v) out → AllByRecursion (MayHave words' v) out
still_out words words' v k out ws never a = each_too (MayHave words v) (MayHave words' v) out (λ p h. (h.0, λ c. ws p.0 (λ e. never (subst (MayTake v) e h.0)) ∙ h.1 c)) a

pub copied_moves : (v : View) (l m : List ℕ) (hs gs : List (opt.Option ℕ)) (k x : ℕ) → get_elem? m k ≡ get_elem? l k → get_elem? gs k ≡ get_elem? hs k → Copied v l hs k x → Copied v m gs k x
copied_moves (Own a o) l m hs gs k x e f c = e ∙ c
copied_moves (Frozen a) l m hs gs k x e f c = c
copied_moves (Sender s t) l m hs gs k x e f c = c
copied_moves (Receiver q u) l m hs gs k x e f c = c
copied_moves (Done a s q) l m hs gs k x e f c = f ∙ c
copied_moves Spent l m hs gs k x e f c = c

-- A TOKEN STEPS, AND TOUCHES THE WORD AND THE SLOT OF ONE NUMBER
pub touched : (count : ℕ) (words words' table : List ℕ) (homes : List (opt.Option ℕ)) (s : State ℕ Token) (id k : ℕ) (h w : Token) → Placed count words s → get_elem? s.views id ≡ some h
    → length table ≡ count → Same words words' k → Same s.words table k → Same s.homes homes k
    → ((q : ℕ) → InSlot w.view q → InSlot h.view q) → ((q : ℕ) → InWord w.view q → InWord h.view q)
    → ((q : ℕ) → q ≢ k → Clear w.out q → Clear h.out q)
    → IsOut words' w → IsCopied words' table homes w
    → ((i : ℕ) (g : Token) → i ≢ id → get_elem? s.views i ≡ some g → Away g k)
    → ((i : ℕ) (g : Token) (x : ℕ) → get_elem? s.views i ≡ some g → InWord g.view k → get_elem? words' k ≡ some x → get_elem? table k ≡ some x)
    → ((i : ℕ) (g : Token) (x : ℕ) → Clear w.out k → get_elem? s.views i ≡ some g → InSlot g.view k → get_elem? words' k ≡ some x → get_elem? homes k ≡ some (some x))
    → (Clear w.out k → k < count → (x : ℕ) × (get_elem? homes k ≡ some (some x)))
    → Placed count words' record { words = table; homes = homes; views = set s.views id w }
touched count words words' table homes s id k h w t here long ws ts hs slots counts had out copied away word_k home_k filled_k = record {
  counted = long;
  outs = λ i g e. ⊎_elim
      (λ (p : (i ≡ id) × (w ≡ g)). subst (IsOut words') p.1 out)
      (λ (p : (i ≢ id) × (get_elem? s.views i ≡ some g)). still_out words words' g.view k g.out ws (away i g p.0 p.1).0 (t.outs i g p.1))
      (at_set s.views id i w g e);
  copies = λ i g e. ⊎_elim
      (λ (p : (i ≡ id) × (w ≡ g)). subst (IsCopied words' table homes) p.1 copied)
      (λ (p : (i ≢ id) × (get_elem? s.views i ≡ some g)). λ q low high.
      let old = t.copies i g p.1 q low high in
      let other : q ≢ k = λ z. (away i g p.0 p.1).1 (subst (λ (n : ℕ). g.from ≤ n) z low) (subst (λ (n : ℕ). n < g.from + g.copied) z high) in
      (old.0, λ x f. copied_moves g.view s.words table s.homes homes q x (ts q other) (hs q other) (old.1 x (sym (ws q other) ∙ f))))
      (at_set s.views id i w g e);
  filled = λ q low free. dite (ℕ_discrete q k)
      (λ (e : q ≡ k). subst (λ (n : ℕ). (x : ℕ) × (get_elem? homes n ≡ some (some x))) (sym e) (filled_k (rests q e free) (subst (λ (n : ℕ). n < count) e low)))
      (λ (n : q ≢ k). let old = t.filled q low (back q n free) in (old.0, hs q n ∙ old.1));
  at_home = λ i g q x e c free f.
      let o = older_slot i g q e c in
      dite (ℕ_discrete q k)
      (λ (z : q ≡ k). subst (λ (n : ℕ). get_elem? homes n ≡ some (some x)) (sym z)
      (home_k o.0 o.1 x (rests q z free) o.2 (subst (InSlot o.1.view) z o.3) (subst (λ (n : ℕ). get_elem? words' n ≡ some x) z f)))
      (λ (n : q ≢ k). hs q n ∙ t.at_home o.0 o.1 q x o.2 o.3 (back q n free) (sym (ws q n) ∙ f));
  in_word = λ i g q x e c f.
      let o = older_word i g q e c in
      dite (ℕ_discrete q k)
      (λ (z : q ≡ k). subst (λ (n : ℕ). get_elem? table n ≡ some x) (sym z)
      (word_k o.0 o.1 x o.2 (subst (InWord o.1.view) z o.3) (subst (λ (n : ℕ). get_elem? words' n ≡ some x) z f)))
      (λ (n : q ≢ k). ts q n ∙ t.in_word o.0 o.1 q x o.2 o.3 (sym (ws q n) ∙ f));
}
  where
    older_slot : (i : ℕ) (g : Token) (q : ℕ) → get_elem? (set s.views id w) i ≡ some g → InSlot g.view q → (j : ℕ) × (f : Token) × (get_elem? s.views j ≡ some f) × InSlot f.view q
    older_slot i g q e c = ⊎_elim
        (λ (p : (i ≡ id) × (w ≡ g)). (id, h, here, slots q (subst (λ (z : Token). InSlot z.view q) (sym p.1) c)))
        (λ (p : (i ≢ id) × (get_elem? s.views i ≡ some g)). (i, g, p.1, c))
        (at_set s.views id i w g e)

    older_word : (i : ℕ) (g : Token) (q : ℕ) → get_elem? (set s.views id w) i ≡ some g → InWord g.view q → (j : ℕ) × (f : Token) × (get_elem? s.views j ≡ some f) × InWord f.view q
    older_word i g q e c = ⊎_elim
        (λ (p : (i ≡ id) × (w ≡ g)). (id, h, here, counts q (subst (λ (z : Token). InWord z.view q) (sym p.1) c)))
        (λ (p : (i ≢ id) × (get_elem? s.views i ≡ some g)). (i, g, p.1, c))
        (at_set s.views id i w g e)

    rests : (q : ℕ) → q ≡ k → Nobody (set s.views id w) q → Clear w.out k
    rests q e free = subst (Clear w.out) e (free id w (set_here s.views id w (in_list s.views id h here)))

    back : (q : ℕ) → q ≢ k → Nobody (set s.views id w) q → Nobody s.views q
    back q n free j f e = dite (ℕ_discrete j id)
        (λ (y : j ≡ id).
        let same : f ≡ h = some-injective f h (sym e ∙ ap (get_elem? s.views) y ∙ here) in
        subst (λ (g : Token). Clear g.out q) (sym same) (had q n (free id w (set_here s.views id w (in_list s.views id h here)))))
        (λ (y : j ≢ id). free j f (set_else s.views id j w y ∙ e))

-- ONLY A VIEW CHANGES
pub free_back : (ts : List Token) (id q : ℕ) (h w : Token) → get_elem? ts id ≡ some h → h.out ≡ [] → Nobody (set ts id w) q → Nobody ts q
free_back ts id q h w here empty free j f e = dite (ℕ_discrete j id)
    (λ (y : j ≡ id).
    let same : f ≡ h = some-injective f h (sym e ∙ ap (get_elem? ts) y ∙ here) in
    subst (λ (out : List (ℕ × ℕ)). Clear out q) (sym (ap (λ (g : Token). g.out) same ∙ empty)) tt)
    (λ (y : j ≢ id). free j f (set_else ts id j w y ∙ e))

-- a token that has no slot out and has copied nothing claims none of either
pub nothing_out : (words : List ℕ) (v : View) (from : ℕ) → IsOut words (copying v from 0)
nothing_out words v from = tt

pub nothing_copied : (words table : List ℕ) (homes : List (opt.Option ℕ)) (v : View) (from : ℕ) → IsCopied words table homes (copying v from 0)
nothing_copied words table homes v from q low high = absurd (omega arith)

pub viewed : (count : ℕ) (words : List ℕ) (s : State ℕ Token) (id from : ℕ) (h : Token) (v : View) → Placed count words s → get_elem? s.views id ≡ some h → h.out ≡ []
    → ((q x : ℕ) → InSlot v q → Nobody s.views q → get_elem? words q ≡ some x → get_elem? s.homes q ≡ some (some x))
    → ((q x : ℕ) → InWord v q → get_elem? words q ≡ some x → get_elem? s.words q ≡ some x)
    → Placed count words record { words = s.words; homes = s.homes; views = set s.views id (copying v from 0) }
viewed count words s id from h v t here empty slots counts = record {
  counted = t.counted;
  outs = λ i g e. ⊎_elim
      (λ (p : (i ≡ id) × (copying v from 0 ≡ g)). subst (IsOut words) p.1 (nothing_out words v from))
      (λ (p : (i ≢ id) × (get_elem? s.views i ≡ some g)). t.outs i g p.1)
      (at_set s.views id i (copying v from 0) g e);
  copies = λ i g e. ⊎_elim
      (λ (p : (i ≡ id) × (copying v from 0 ≡ g)). subst (IsCopied words s.words s.homes) p.1 (nothing_copied words s.words s.homes v from))
      (λ (p : (i ≢ id) × (get_elem? s.views i ≡ some g)). t.copies i g p.1)
      (at_set s.views id i (copying v from 0) g e);
  filled = λ q low free. t.filled q low (free_back s.views id q h (copying v from 0) here empty free);
  at_home = λ i g q x e c free f.
      let before = free_back s.views id q h (copying v from 0) here empty free in
      ⊎_elim
      (λ (p : (i ≡ id) × (copying v from 0 ≡ g)). slots q x (subst (λ (z : Token). InSlot z.view q) (sym p.1) c) before f)
      (λ (p : (i ≢ id) × (get_elem? s.views i ≡ some g)). t.at_home i g q x p.1 c before f)
      (at_set s.views id i (copying v from 0) g e);
  in_word = λ i g q x e c f. ⊎_elim
      (λ (p : (i ≡ id) × (copying v from 0 ≡ g)). counts q x (subst (λ (z : Token). InWord z.view q) (sym p.1) c) f)
      (λ (p : (i ≢ id) × (get_elem? s.views i ≡ some g)). t.in_word i g q x p.1 c f)
      (at_set s.views id i (copying v from 0) g e);
}

-- A NEW TOKEN COMES
pub free_front : (ts : List Token) (q : ℕ) (t : Token) → Nobody (ts ++ t ∷ []) q → Nobody ts q
free_front ts q t free j f e = free j f (at_longer_one ts j f e)
  where
    at_longer_one : (l : List Token) (j : ℕ) (f : Token) → get_elem? l j ≡ some f → get_elem? (l ++ t ∷ []) j ≡ some f
    at_longer_one [] j f e = absurd (some-ne-none f (sym e))
    at_longer_one (x ∷ xs) zero f e = e
    at_longer_one (x ∷ xs) (suc j) f e = at_longer_one xs j f e

pub appended : (count : ℕ) (words : List ℕ) (s : State ℕ Token) (v : View) → Placed count words s
    → ((q x : ℕ) → InSlot v q → Nobody s.views q → get_elem? words q ≡ some x → get_elem? s.homes q ≡ some (some x))
    → ((q x : ℕ) → InWord v q → get_elem? words q ≡ some x → get_elem? s.words q ≡ some x)
    → Placed count words record { words = s.words; homes = s.homes; views = s.views ++ idle v ∷ [] }
appended count words s v t slots counts = record {
  counted = t.counted;
  outs = λ i g e. ⊎_elim
      (λ (p : get_elem? s.views i ≡ some g). t.outs i g p)
      (λ (p : (i ≡ length s.views) × (idle v ≡ g)). subst (IsOut words) p.1 (nothing_out words v 0))
      (snoc_place s.views (idle v) g i e);
  copies = λ i g e. ⊎_elim
      (λ (p : get_elem? s.views i ≡ some g). t.copies i g p)
      (λ (p : (i ≡ length s.views) × (idle v ≡ g)). subst (IsCopied words s.words s.homes) p.1 (nothing_copied words s.words s.homes v 0))
      (snoc_place s.views (idle v) g i e);
  filled = λ q low free. t.filled q low (free_front s.views q (idle v) free);
  at_home = λ i g q x e c free f. ⊎_elim
      (λ (p : get_elem? s.views i ≡ some g). t.at_home i g q x p c (free_front s.views q (idle v) free) f)
      (λ (p : (i ≡ length s.views) × (idle v ≡ g)). slots q x (subst (λ (z : Token). InSlot z.view q) (sym p.1) c) (free_front s.views q (idle v) free) f)
      (snoc_place s.views (idle v) g i e);
  in_word = λ i g q x e c f. ⊎_elim
      (λ (p : get_elem? s.views i ≡ some g). t.in_word i g q x p c f)
      (λ (p : (i ≡ length s.views) × (idle v ≡ g)). counts q x (subst (λ (z : Token). InWord z.view q) (sym p.1) c) f)
      (snoc_place s.views (idle v) g i e);
}
