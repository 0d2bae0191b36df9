-- A walk along a chain: the items passed have other keys, and the others are still ahead.
use Rattle.std.proofs.Common.{◌≡◌, ◌≢◌, ℕ, suc, ◌+◌, ◌<◌, ◌≤◌, ◌⊎◌, inl, inr, List, [], ◌∷◌, ◌++◌, length, refl, sym, ap, subst, ◌∙◌, arith, ⊎_elim, length-append, append_assoc, append-nil}
use Rattle.word_map.specs.WordMap.{WordMap}
use Rattle.dshash_core.specs.Chains.{word, words_at, places, IsChain, Among, link_behind}
use Rattle.dshash_core.specs.Walk.{IsPlaced, IsNowhere}
use Rattle.dshash_core.proofs.Chains.{places_is}

pub record Walked (m : WordMap) (chain : List ℕ) (link behind item key_words : ℕ) (key : List ℕ) : Type 0 where
  pub before : List ℕ
  pub ahead : List ℕ
  pub splits : chain ≡ before ++ ahead
  pub linked : link_behind link before ≡ behind
  pub leads : IsChain (word m) item ahead
  pub others : IsNowhere (word m) before key_words key

pub among_last : (a x : ℕ) (xs : List ℕ) → Among a (xs ++ x ∷ []) → (a ≡ x) ⊎ Among a xs
among_last a x [] (inl e) = inl e
among_last a x [] (inr e) = absurd e
among_last a x (y ∷ xs) (inl e) = inr (inl e)
among_last a x (y ∷ xs) (inr m) = ⊎_elim (λ e. inl e) (λ h. inr (inr h)) (among_last a x xs m)

pub link_behind-last : (link x : ℕ) (xs : List ℕ) → link_behind link (xs ++ x ∷ []) ≡ x
link_behind-last link x [] = refl
link_behind-last link x (y ∷ xs) = link_behind-last y x xs

pub among_right : (a : ℕ) (xs ys : List ℕ) → Among a ys → Among a (xs ++ ys)
among_right a [] ys m = m
among_right a (x ∷ xs) ys m = inr (among_right a xs ys m)

pub begins : (m : WordMap) (n link key_words : ℕ) (key : List ℕ) → IsChain (word m) (word m link) (places (word m) n (word m link)) → Walked m (places (word m) n (word m link)) link link (word m link) key_words key
begins m n link key_words key c = record { before = []; ahead = places (word m) n (word m link); splits = refl; linked = refl; leads = c; others = λ a h. absurd h }

-- where the walk stands at an item, that is the next one ahead
item_ahead : (w : ℕ → ℕ) (item : ℕ) (ahead : List ℕ) → IsChain w item ahead → item ≢ 0 → (rest : List ℕ) × (ahead ≡ item ∷ rest) × IsChain w (w item) rest
item_ahead w item [] c n = absurd (n c)
item_ahead w item (x ∷ rest) c n = (rest, (λ i. sym c.0 i ∷ rest), subst (λ (a : ℕ). IsChain w (w a) rest) (sym c.0) c.2)

nothing_ahead : (w : ℕ → ℕ) (ahead : List ℕ) → IsChain w 0 ahead → ahead ≡ []
nothing_ahead w [] c = refl
nothing_ahead w (x ∷ rest) c = let z : 0 < x = c.1 in let e : 0 ≡ x = c.0 in absurd (omega arith)

among_middle : (a : ℕ) (xs ys : List ℕ) → Among a (xs ++ a ∷ ys)
among_middle a [] ys = inl refl
among_middle a (x ∷ xs) ys = inr (among_middle a xs ys)

module _ (m : WordMap) (chain : List ℕ) (link behind item key_words : ℕ) (key : List ℕ) where
  split_here : (k : Walked m chain link behind item key_words key) → item ≢ 0 → (rest : List ℕ) × (chain ≡ k.before ++ item ∷ rest) × IsChain (word m) (word m item) rest
  split_here k n = let h = item_ahead (word m) item k.ahead k.leads n in (h.0, k.splits ∙ ap (λ (ys : List ℕ). k.before ++ ys) h.1, h.2)

  pub item_on : Walked m chain link behind item key_words key → item ≢ 0 → Among item chain
  item_on k n = let h = split_here k n in subst (λ (c : List ℕ). Among item c) (sym h.1) (among_middle item k.before h.0)

  pub walk_found : Walked m chain link behind item key_words key → item ≢ 0 → words_at (word m) (item + 2) key_words ≡ key → IsPlaced (word m) chain link behind item key_words key
  walk_found k n e = let h = split_here k n in record { before = k.before; after = h.0; splits = h.1; linked = k.linked; here = e }

  pub walk_none : Walked m chain link behind item key_words key → item ≡ 0 → IsNowhere (word m) chain key_words key
  walk_none k z =
      let end : k.ahead ≡ [] = nothing_ahead (word m) k.ahead (subst (λ (a : ℕ). IsChain (word m) a k.ahead) z k.leads) in
      subst (λ (c : List ℕ). IsNowhere (word m) c key_words key) (sym (k.splits ∙ ap (λ (ys : List ℕ). k.before ++ ys) end ∙ append-nil k.before)) k.others

  pub walk_on : Walked m chain link behind item key_words key → item ≢ 0 → words_at (word m) (item + 2) key_words ≢ key → Walked m chain link item (word m item) key_words key
  walk_on k n other =
      let h = split_here k n in
      record {
        before = k.before ++ item ∷ [];
        ahead = h.0;
        splits = h.1 ∙ sym (append_assoc k.before (item ∷ []) h.0);
        linked = link_behind-last link item k.before;
        leads = h.2;
        others = λ a a_in. ⊎_elim (λ (e : a ≡ item). subst (λ (b : ℕ). words_at (word m) (b + 2) key_words ≢ key) (sym e) other) (λ b_in. k.others a b_in) (among_last a item k.before a_in);
      }

  pub walk_shorter : (n : ℕ) → length chain ≤ n → Walked m chain link behind item key_words key → item ≢ 0 → length (places (word m) n (word m item)) < length (places (word m) n item)
  walk_shorter n short k there =
      let h = split_here k there in
      let long : length chain ≡ length k.before + suc (length h.0) = ap length h.1 ∙ length-append k.before (item ∷ h.0) in
      let ahead : Walked m chain link behind item key_words key = k in
      let i = item_ahead (word m) item k.ahead k.leads there in
      let whole : length chain ≡ length k.before + length k.ahead = ap length k.splits ∙ length-append k.before k.ahead in
      let now : places (word m) n item ≡ k.ahead = places_is (word m) n item k.ahead k.leads (omega arith) in
      let next : places (word m) n (word m item) ≡ h.0 = places_is (word m) n (word m item) h.0 h.2 (omega arith) in
      omega (arith, ap length now, ap length next)
