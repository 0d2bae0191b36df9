-- What a change at one name of an ordered map leaves under each name.
use Rattle.std.proofs.Common.{◌≡◌, ◌≢◌, ◌∙◌, ◌⊎◌, inl, inr, ℕ, Bool, true, false, List, Option, None, Some, IfNone, IfSome, OnSome, is_some, option_map, refl, ap, sym, subst}
use Rattle.std.proofs.lemmas.Bool.{cases_Bool}
use Rattle.std.specs.BTreeMap.{BTreeMap, IsUnchanged, UpdatesBy, is_at}
use Rattle.std.specs.Cmp.{eq_by_cmp_equiv}
use Rattle.std.specs.Cmp.Lexicographic.{bytes_decides, nat_list_cmp_total, nat_list_eq_equiv, slice_cmp, texts_ties}
use Rattle.std.specs.Global.{Vec}
use Rattle.std.specs.Map.{AreApart, IsKeyTest, KeepsOthers, lookup}
use Rattle.std.specs.Ordering.{is_eq, nat_cmp}
use Rattle.std.specs.Str.{bytes_eq}
use Rattle.std.specs.declared.cmp.Ordering.{Ordering}
use Rattle.std.specs.declared.cmp.Ordering.TheVariants.{Equal}
use Rattle.shell_memory.specs.Names.{IsFree, Puts, Stays, under}

-- the order of names as keys
abbrev pub vec_cmp : Vec ℕ → Vec ℕ → Ordering
vec_cmp x y = slice_cmp nat_cmp x.items y.items

-- how a name compares to keys
abbrev pub name_cmp : List ℕ → Vec ℕ → Ordering
name_cmp name key = slice_cmp nat_cmp name key.items

is_eq-slice_cmp : (xs ys : List ℕ) → is_eq (slice_cmp nat_cmp xs ys) ≡ bytes_eq xs ys
is_eq-slice_cmp xs ys = sym (texts_ties xs ys)

apart : (bs cs ks : List ℕ) → bytes_eq bs cs ≡ false → bytes_eq bs ks ≡ true → bytes_eq cs ks ≡ false
apart bs cs ks n y = nat_list_eq_equiv.symm cs ks ∙ sym (nat_list_eq_equiv.congr bs ks cs y) ∙ n

apart_in_order : (bs cs ks : List ℕ) → bytes_eq bs cs ≡ false → is_eq (slice_cmp nat_cmp bs ks) ≡ true → is_eq (slice_cmp nat_cmp cs ks) ≡ false
apart_in_order bs cs ks n y = is_eq-slice_cmp cs ks ∙ apart bs cs ks n (sym (is_eq-slice_cmp bs ks) ∙ y)

module _ {K : Type 0} (eq : K → K → Bool) (test : K → Bool) where
  other_entries : {X : Type 0} (old new : List (K × X)) → KeepsOthers eq test old new → (other : K → Bool) → IsKeyTest eq other → AreApart test other → lookup other new ≡ lookup other old
  unfolding KeepsOthers
  other_entries old new h = h

-- two names are the same or not
pub same_or_not : (name other : List ℕ) → (other ≡ name) ⊎ (other ≢ name)
same_or_not name other = by (cases_Bool (bytes_eq other name))
  where
    by : (bytes_eq other name ≡ true) ⊎ (bytes_eq other name ≡ false) → (other ≡ name) ⊎ (other ≢ name)
    by (inl y) = inl ((bytes_decides other name).0 y)
    by (inr n) = inr (λ e. let t = (bytes_decides other name).1 e in cc)

-- a name that compares equal to a key is its
pub same_name : (name : List ℕ) (key : Vec ℕ) → name_cmp name key ≡ Equal → key.items ≡ name
same_name name key e = sym ((bytes_decides name key.items).0 (sym (is_eq-slice_cmp name key.items) ∙ ap is_eq e))

module _ {X : Type 0} where
  -- a change at a name
  pub puts : (name : List ℕ) (m n : BTreeMap (Vec ℕ) X) (w : Option X) → UpdatesBy vec_cmp (name_cmp name) m n w → Puts m n name w
  puts name m n w h = record {
    there = h.1;
    others = λ other differs. other_entries _ _ _ _ h.3 _ (λ x y. (eq_by_cmp_equiv nat_list_cmp_total).congr other x.items y.items) (λ k. apart_in_order name other k.items (no other differs));
  }
    where
      no : (other : List ℕ) → other ≢ name → bytes_eq name other ≡ false
      no other differs = by (cases_Bool (bytes_eq name other))
        where
          by : (bytes_eq name other ≡ true) ⊎ (bytes_eq name other ≡ false) → bytes_eq name other ≡ false
          by (inl y) = absurd (differs (sym ((bytes_decides name other).0 y)))
          by (inr n) = n

  -- a change at a key, which is a name's
  pub puts_key : (name : List ℕ) (key : Vec ℕ) (m n : BTreeMap (Vec ℕ) X) (w : Option X) → key.items ≡ name → UpdatesBy vec_cmp (vec_cmp key) m n w → Puts m n name w
  puts_key name key m n w e h = subst (λ (l : List ℕ). Puts m n l w) e (puts key.items m n w h)

  -- no change
  pub stays : (m n : BTreeMap (Vec ℕ) X) → IsUnchanged m n → Stays m n
  stays m n e name = ap (lookup (is_at (name_cmp name))) e

  -- the same map
  pub same : (m n : BTreeMap (Vec ℕ) X) → n ≡ m → Stays m n
  same m n e name = ap (λ (o : BTreeMap (Vec ℕ) X). under o name) e

  -- nothing was found
  pub not-there : (o : Option X) (found : Bool) → found ≡ is_some o → found ≡ false → o ≡ None
  not-there None found e f = refl
  not-there (Some x) found e f = cc

  -- what was there is put there again
  pub puts_again : (m n : BTreeMap (Vec ℕ) X) (name : List ℕ) → Puts m n name (under m name) → Stays m n
  puts_again m n name p other = by (same_or_not name other)
    where
      by : (other ≡ name) ⊎ (other ≢ name) → under n other ≡ under m other
      by (inl e) = subst (λ (l : List ℕ). under n l ≡ under m l) (sym e) p.there
      by (inr d) = p.others other d

  -- two changes at one name
  pub puts_twice : (m n o : BTreeMap (Vec ℕ) X) (name : List ℕ) (v w : Option X) → Puts m n name v → Puts n o name w → Puts m o name w
  puts_twice m n o name v w p q = record { there = q.there; others = λ other d. q.others other d ∙ p.others other d }

  -- where nothing was, nothing is taken away
  pub free_again : (m n : BTreeMap (Vec ℕ) X) (name : List ℕ) → IsFree m name → Puts m n name None → Stays m n
  free_again m n name f p = puts_again m n name (record { there = p.there ∙ sym f; others = p.others })

  -- what holds of all that stands under names holds after a change, where it holds of what was put there
  pub all_after : (P : List ℕ → X → Type 0) (m n : BTreeMap (Vec ℕ) X) (name : List ℕ) (x : X) → Puts m n name (Some x) → ((other : List ℕ) (y : X) → under m other ≡ Some y → P other y) → P name x
      → (other : List ℕ) (y : X) → under n other ≡ Some y → P other y
  all_after P m n name x p all here other y e = by (same_or_not name other)
    where
      by : (other ≡ name) ⊎ (other ≢ name) → P other y
      by (inl s) =
          let e2 : under n name ≡ Some y = subst (λ (l : List ℕ). under n l ≡ Some y) s e in
          let t : under n name ≡ Some x = p.there in
          let f : x ≡ y = cc in
          subst (λ (l : List ℕ). P l y) (sym s) (subst (P name) f here)
      by (inr d) = all other y (sym (p.others other d) ∙ e)

  -- the same where nothing changed
  pub all_stays : (P : List ℕ → X → Type 0) (m n : BTreeMap (Vec ℕ) X) → Stays m n → ((other : List ℕ) (y : X) → under m other ≡ Some y → P other y) → (other : List ℕ) (y : X) → under n other ≡ Some y → P other y
  all_stays P m n s all other y e = all other y (sym (s other) ∙ e)

  -- what was taken from under a name
  pub taken-none : (o : Option (Vec ℕ × X)) (name : List ℕ) (m n : BTreeMap (Vec ℕ) X) → option_map (λ p. p.1) o ≡ under m name → IfNone o (IsUnchanged m n) → IfNone o (IsFree m name × Stays m n)
  taken-none None name m n e u = (sym e, stays m n u)
  taken-none (Some p) name m n e u = tt

  pub taken-key : (o : Option (Vec ℕ × X)) (name : List ℕ) → IfSome o (λ p. name_cmp name p.0 ≡ Equal) → IfSome o (λ p. p.0.items ≡ name)
  taken-key None name h = tt
  taken-key (Some p) name h = same_name name p.0 h

  pub taken-value : (o : Option (Vec ℕ × X)) (name : List ℕ) (m : BTreeMap (Vec ℕ) X) → option_map (λ p. p.1) o ≡ under m name → IfSome o (λ p. under m name ≡ Some p.1)
  taken-value None name m e = tt
  taken-value (Some p) name m e = sym e

  pub taken-rest : (o : Option (Vec ℕ × X)) (name : List ℕ) (m n : BTreeMap (Vec ℕ) X) → UpdatesBy vec_cmp (name_cmp name) m n None → OnSome o (Puts m n name None)
  taken-rest None name m n h = tt
  taken-rest (Some p) name m n h = puts name m n None h

-- what a look-up tells of what it found
pub found-by : {X A : Type 0} (f : X → A) (o : Option X) (a : A) → Some a ≡ option_map f o → (x : X) × (o ≡ Some x) × (f x ≡ a)
found-by f None a e = absurd (cc)
found-by f (Some x) a e = (x, refl, cc)
