-- One key more: all keys rise if it comes after the last one.
use Rattle.std.proofs.Common.{Bor, ◌≡◌, ◌++◌, ◌∙◌, ℕ, Bool, true, false, List, [], ◌∷◌, MatchOption, None, Option, Some, ap, map, refl, subst, sym}
use Rattle.std.specs.List.{AllByRecursion}
use Rattle.std.specs.List.Sorted.{IsStrictlySortedBy}
use Rattle.std.specs.Ordering.{is_lt}
use Rattle.std.specs.declared.cmp.Ordering.{Ordering}
use Rattle.std.specs.declared.cmp.Ordering.TheVariants.{Equal, Greater, Less}
use Rattle.std.proofs.lemmas.Bool.{true≢false}
use Rattle.std.proofs.lemmas.List.{map-append}
use Rattle.std.proofs.lemmas.List.Elements.{All-nil, All-push}
use Rattle.par_model.specs.Table.{columns_cmp}
use Rattle.result_text.specs.KeyColumns.{columns_in}
use Rattle.result_text.proofs.Columns.{columns_total}
use Rattle.state_head.specs.Words.{Keys, keys_of}
use Rattle.state_order.specs.Order.{ComesBefore, DoesNotFollow, HasKeys, IsIn, IsLast, Rise}
use Rattle.state_order.specs.declared.order.KeyOrder.{KeyOrder}

pub lt_is : (o : Ordering) → is_lt o ≡ true → o ≡ Less
lt_is Less e = refl
lt_is Equal e = absurd (true≢false (sym e))
lt_is Greater e = absurd (true≢false (sym e))

-- ---- lists

abbrev Columns : Type 0
Columns = List (List ℕ)

last_has : (P : Columns → Type 0) (xs : List Columns) (l : Columns) → AllByRecursion P (xs ++ l ∷ []) → P l
last_has P [] l h = h.0
last_has P (x ∷ xs) l h = last_has P xs l h.1

each_push : (P : Columns → Type 0) (xs : List Columns) (k : Columns) → AllByRecursion P xs → P k → AllByRecursion P (xs ++ k ∷ [])
each_push P [] k h p = (p, tt)
each_push P (x ∷ xs) k h p = (h.0, each_push P xs k h.1 p)

rise_push : (xs : List Columns) (l k : Columns) → IsStrictlySortedBy columns_cmp (xs ++ l ∷ []) → columns_cmp l k ≡ Less → IsStrictlySortedBy columns_cmp ((xs ++ l ∷ []) ++ k ∷ [])
unfolding IsStrictlySortedBy
rise_push [] l k h less = ((less, tt), (tt, tt))
rise_push (x ∷ xs) l k h less =
    let Above : Columns → Type 0 = λ y. columns_cmp x y ≡ Less in
    (each_push Above (xs ++ l ∷ []) k h.0 (columns_total.trans x l k (last_has Above xs l h.0) less), rise_push xs l k h.1 less)

one_rises : (k : Columns) → IsStrictlySortedBy columns_cmp (k ∷ [])
unfolding IsStrictlySortedBy
one_rises k = (tt, tt)

none_rises : IsStrictlySortedBy columns_cmp []
unfolding IsStrictlySortedBy
none_rises = tt

-- ---- keys

rises : (columns : ℕ) (keys front : List (List ℕ)) (last key : List ℕ) → keys ≡ front ++ last ∷ [] → Rise columns keys → ComesBefore columns last key → Rise columns (keys ++ key ∷ [])
rises columns keys front last key is rise less =
    let f : List ℕ → Columns = columns_in columns in
    let two : map f keys ≡ map f front ++ f last ∷ [] = ap (map f) is ∙ map-append f front (last ∷ []) in
    subst (IsStrictlySortedBy columns_cmp) (ap (λ (cs : List Columns). cs ++ f key ∷ []) (sym two) ∙ sym (map-append f keys (key ∷ [])))
    (rise_push (map f front) (f last) (f key) (subst (IsStrictlySortedBy columns_cmp) two rise) less)

first_rises : (columns : ℕ) (keys : List (List ℕ)) (key : List ℕ) → keys ≡ [] → Rise columns (keys ++ key ∷ [])
first_rises columns keys key none = subst (λ (ks : List (List ℕ)). Rise columns (ks ++ key ∷ [])) (sym none) (one_rises (columns_in columns key))

-- a key comes after the last one, if there is one
abbrev pub Follows : KeyOrder → List ℕ → Type 0
Follows order key = MatchOption order.last (Unit {0}) (λ last. ComesBefore order.columns last.now key)

-- ---- what came so far

abbrev no_key : List (List ℕ)
no_key = []

pub no_keys : (columns : ℕ) (range : Keys) (order : KeyOrder) → order.columns ≡ columns → keys_of order.range ≡ range → order.last ≡ None → HasKeys columns range [] order
no_keys columns range order same is none = record {
  columns_are = same;
  range_is = is;
  last_is = subst (λ (last : Option (Bor (List ℕ))). MatchOption last (no_key ≡ []) (λ k. IsLast no_key k.now)) (sym none) refl;
  are = record { rise = none_rises; each = All-nil (IsIn columns range) };
}

one_more : (columns : ℕ) (range : Keys) (keys : List (List ℕ)) (key : List ℕ) (old : KeyOrder) → HasKeys columns range keys old → Follows old key → Rise columns (keys ++ key ∷ [])
one_more columns range keys key old has follows = go old.last has.last_is follows
  where
    go : (last : Option (Bor (List ℕ))) → MatchOption last (keys ≡ []) (λ l. IsLast keys l.now) → MatchOption last (Unit {0}) (λ l. ComesBefore old.columns l.now key) → Rise columns (keys ++ key ∷ [])
    go None none follow = first_rises columns keys key none
    go (Some last) is follow = rises columns keys is.front last.now key is.is has.are.rise (subst (λ (n : ℕ). ComesBefore n last.now key) has.columns_are follow)

pub key_more : (columns : ℕ) (range : Keys) (keys : List (List ℕ)) (key : List ℕ) (old new : KeyOrder) → HasKeys columns range keys old → Follows old key → IsIn old.columns (keys_of old.range) key → new.columns ≡ old.columns → new.range ≡ old.range
    → MatchOption new.last ⊥ (λ last. last.now ≡ key) → HasKeys columns range (keys ++ key ∷ []) new
key_more columns range keys key old new has follows is_in same within last = record {
  columns_are = same ∙ has.columns_are;
  range_is = ap keys_of within ∙ has.range_is;
  last_is = go new.last last;
  are = record {
    rise = one_more columns range keys key old has follows;
    each = All-push (IsIn columns range) keys key has.are.each (subst (λ (n : ℕ). IsIn n range key) has.columns_are (subst (λ (r : Keys). IsIn old.columns r key) has.range_is is_in));
  };
}
  where
    go : (l : Option (Bor (List ℕ))) → MatchOption l ⊥ (λ k. k.now ≡ key) → MatchOption l (keys ++ key ∷ [] ≡ []) (λ k. IsLast (keys ++ key ∷ []) k.now)
    go None is = absurd is
    go (Some k) is = record { front = keys; is = ap (λ (x : List ℕ). keys ++ x ∷ []) (sym is) }

-- ---- what does not come next

pub not_next : (columns : ℕ) (range : Keys) (keys : List (List ℕ)) (key : List ℕ) (old : KeyOrder) → HasKeys columns range keys old → (Follows old key → ⊥) → DoesNotFollow columns keys key
not_next columns range keys key old has none = go old.last has.last_is none
  where
    go : (last : Option (Bor (List ℕ))) → MatchOption last (keys ≡ []) (λ l. IsLast keys l.now) → (MatchOption last (Unit {0}) (λ l. ComesBefore old.columns l.now key) → ⊥) → DoesNotFollow columns keys key
    go None is none = absurd (none tt)
    go (Some last) is none = record { last = last.now; is_last = is; not_before = λ less. none (subst (λ (n : ℕ). ComesBefore n last.now key) (sym has.columns_are) less) }

pub not_in : (columns : ℕ) (range : Keys) (keys : List (List ℕ)) (key : List ℕ) (old : KeyOrder) → HasKeys columns range keys old → (IsIn old.columns (keys_of old.range) key → ⊥) → IsIn columns range key → ⊥
not_in columns range keys key old has none is = none (subst (λ (n : ℕ). IsIn n (keys_of old.range) key) (sym has.columns_are) (subst (λ (r : Keys). IsIn columns r key) (sym has.range_is) is))

-- a test that says no
pub says_no : (b : Bool) (P : Type 0) → (P → b ≡ true) → b ≡ false → P → ⊥
says_no b P holds e p = true≢false (sym (holds p) ∙ e)
