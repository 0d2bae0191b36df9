-- The words of a store when a chunk is cut off it and when one is joined to it.
use Rattle.std.proofs.Common.{◌≡◌, ◌≢◌, ℕ, ◌*◌, ◌/◌, ◌%◌, ◌<◌, ⊎_elim, true, false, List, Option, Some, None, is_some, IsSome, unwrap_or, refl, sym, ap, subst, ◌∙◌, arith, nat_cmp}
use Rattle.std.specs.Cmp.Lexicographic.{slice_cmp}
use Rattle.std.proofs.lemmas.Bool.Decides.{nat_tests}
use Rattle.std.specs.FinMap as fin
use Rattle.word_map.specs.WordMap.{WordMap, at, is_within, range_of, rest_of, union, Disjoint, HasJust}
use Rattle.word_map.proofs.Maps.{at-union, at-range_in, at-rest_out, or_else, within_true, within_is}
use Rattle.region_words.specs.Parts.{Owned}
use Rattle.region_words.specs.declared.chunk.Chunk.{Chunk}
use Rattle.dshash_core.specs.Cells.{KeyMap, PartitionView}
use Rattle.dshash_core.proofs.Maps.{keys_same_or_not}
use Rattle.dshash_chunks.specs.declared.name.ChunkName.{ChunkName}
use Rattle.dshash_chunks.specs.Held.{contents, held, held_in, name_of, worked_on}
use Rattle.dshash_chunks.specs.Stored.{IsCuttable, IsOneOf, IsStored, IsStoring, without}
use Rattle.dshash_chunks.proofs.Shown.{Follows, KeepOthers, held_same}

-- what is none of a chunk's words is outside its range
outside : (n : ChunkName) (k : ℕ) → (IsOneOf n k → ⊥) → is_within n.at (n.bytes / 8) k ≡ false
outside n k h = elim (is_within n.at (n.bytes / 8) k) as (λ b. is_within n.at (n.bytes / 8) k ≡ b → b ≡ false) [
  | true ↦ λ e. absurd (h (within_is n.at (n.bytes / 8) k e))
  | false ↦ λ e. refl
] refl

-- a word of no name that goes stays
pub at-without : (m : WordMap) (old : Option ChunkName) (k : ℕ) → ((n : ChunkName) → old ≡ Some n → IsOneOf n k → ⊥) → at (without m old) k ≡ at m k
at-without m None k h = refl
at-without m (Some n) k h = at-rest_out m n.at (n.bytes / 8) k (outside n k (h n refl))

old_one : (o p : Option ℕ) → IsSome p → ((x y : ℕ) → p ≡ Some x → o ≡ Some y → ⊥) → or_else o p ≡ p
old_one None p s h = refl
old_one (Some y) (Some x) s h = absurd (h x y refl refl)
old_one (Some y) None s h = cc

new_one : (o p : Option ℕ) → is_some o ≡ true → or_else o p ≡ o
new_one (Some x) p s = refl
new_one None p s = cc

pub at-union_old : (m n : WordMap) (k : ℕ) → Disjoint m n → IsSome (at m k) → at (union m n) k ≡ at m k
at-union_old m n k d s = at-union m n k ∙ old_one (at n k) (at m k) s (d k)

pub at-union_new : (m n : WordMap) (k : ℕ) → is_some (at n k) ≡ true → at (union m n) k ≡ at n k
at-union_new m n k s = at-union m n k ∙ new_one (at n k) (at m k) s

both_there : (o p : Option ℕ) → IsSome o → is_some p ≡ true → ((x y : ℕ) → o ≡ Some x → p ≡ Some y → ⊥) → ⊥
both_there (Some x) (Some y) s t h = h x y refl refl
both_there None p s t h = cc
both_there (Some x) None s t h = cc

-- the words of all other chunks are there, with their values
abbrev pub KeepWords : WordMap → WordMap → KeyMap ChunkName → List ℕ → Type 0
KeepWords m v names key = (q : List ℕ) (n : ChunkName) → q ≢ key → fin.get names q ≡ Some n → (k : ℕ) → IsOneOf n k → at v k ≡ at m k

pub keep_others : (m v : WordMap) (names : KeyMap ChunkName) (key : List ℕ) → KeepWords m v names key → KeepOthers m v names key
keep_others m v names key w = λ q n ne e. held_same v m n (λ k low high. ap (λ (o : Option ℕ). unwrap_or o 0) (w q n ne e k (low, high)))

-- nothing of the other chunks goes with a key's, which is `old`
pub cut_keeps : (m : WordMap) (names : KeyMap ChunkName) (key : List ℕ) (old : Option ChunkName) → fin.get names key ≡ old → IsStored m names → KeepWords m (without m old) names key
cut_keeps m names key old is s = λ q n ne e k one. at-without m old k (λ x here in_x. s.apart q key n x e (is ∙ here) ne k one in_x)

-- and nothing of them changes when another chunk takes its place
pub put_keeps : (m c : WordMap) (names : KeyMap ChunkName) (key : List ℕ) (old : Option ChunkName) → fin.get names key ≡ old → IsStored m names → Disjoint (without m old) c → KeepWords m (union (without m old) c) names key
put_keeps m c names key old is s d = λ q n ne e k one.
    let cut = cut_keeps m names key old is s q n ne e k one in
    at-union_old (without m old) c k d (subst IsSome (sym cut) ((s.chunks q n e).owned k one.0 one.1)) ∙ cut

module _ (m v : WordMap) (names now : KeyMap ChunkName) (key : List ℕ) (next : Option ChunkName) (s : IsStored m names) (f : Follows names now key next) (w : KeepWords m v names key) where
  cuttable : (q : List ℕ) (n : ChunkName) → q ≢ key → fin.get now q ≡ Some n → IsCuttable v n
  cuttable q n ne e =
      let before = sym (f.others q ne) ∙ e in
      let c = s.chunks q n before in
      record { valid = c.valid; whole = c.whole; owned = λ k low high. subst IsSome (sym (w q n ne before k (low, high))) (c.owned k low high) }

  -- the store has just the chunks of the new names
  pub stays_stored : ((x : ChunkName) → next ≡ Some x → IsCuttable v x) → ((x : ChunkName) → next ≡ Some x → (q : List ℕ) (n : ChunkName) → q ≢ key → fin.get names q ≡ Some n → (k : ℕ) → IsOneOf x k → IsOneOf n k → ⊥) → IsStored v now
  stays_stored there apart = record {
    chunks = λ q n e. ⊎_elim
        (λ (same : q ≡ key). there n (sym f.here ∙ (ap (fin.get now) (sym same) ∙ e)))
        (λ (ne : q ≢ key). cuttable q n ne e)
        (keys_same_or_not q key);
    apart = λ q other n x e g ne k a b. ⊎_elim
        (λ (same : q ≡ key). let no : other ≢ key = λ z. ne (same ∙ sym z) in apart n (sym f.here ∙ (ap (fin.get now) (sym same) ∙ e)) other x no (sym (f.others other no) ∙ g) k a b)
        (λ (no : q ≢ key). ⊎_elim
        (λ (same : other ≡ key). apart x (sym f.here ∙ (ap (fin.get now) (sym same) ∙ g)) q n no (sym (f.others q no) ∙ e) k b a)
        (λ (not_other : other ≢ key). s.apart q other n x (sym (f.others q no) ∙ e) (sym (f.others other not_other) ∙ g) ne k a b)
        (keys_same_or_not other key))
        (keys_same_or_not q key);
  }

-- a key's chunk was cut off
pub cut_stored : (m : WordMap) (names now : KeyMap ChunkName) (key : List ℕ) (old : Option ChunkName) → fin.get names key ≡ old → IsStored m names → Follows names now key None → IsStored (without m old) now
cut_stored m names now key old is s f = stays_stored m (without m old) names now key None s f (cut_keeps m names key old is s) (λ x e. cc) (λ x e. cc)

-- nothing was done
pub same_stored : (m : WordMap) (names now : KeyMap ChunkName) (key : List ℕ) → IsStored m names → Follows names now key (fin.get names key) → IsStored m now
same_stored m names now key s f = stays_stored m m names now key (fin.get names key) s f (λ q n ne e k one. refl) (λ x e. s.chunks key x e) (λ x e q n ne there k a b. s.apart key q x n e there (λ z. ne (sym z)) k a b)

-- a chunk c has come in its place
module _ (m c : WordMap) (names now : KeyMap ChunkName) (key : List ℕ) (old : Option ChunkName) (is : fin.get names key ≡ old) (x : ChunkName) (s : IsStored m names) (f : Follows names now key (Some x)) (d : Disjoint (without m old) c) (just : HasJust c x.at (x.bytes / 8)) where
  has : (k : ℕ) → IsOneOf x k → is_some (at c k) ≡ true
  has k one = just k ∙ within_true x.at (x.bytes / 8) k one.0 one.1

  pub put_held : held (union (without m old) c) x ≡ held c x
  put_held = held_same (union (without m old) c) c x (λ k low high. ap (λ (o : Option ℕ). unwrap_or o 0) (at-union_new (without m old) c k (has k (low, high))))

  unwrapped : (a b : ChunkName) → Some a ≡ Some b → a ≡ b
  unwrapped a b e = ap (λ (o : Option ChunkName). unwrap_or o a) e

  pub put_stored : 0 < x.at → x.bytes % 8 ≡ 0 → IsStored (union (without m old) c) now
  put_stored valid whole =
      let v = union (without m old) c in
      stays_stored m v names now key (Some x) s f (put_keeps m c names key old is s d)
      (λ y e. subst (IsCuttable v) (unwrapped x y e) (record { valid = valid; whole = whole; owned = λ k low high. let there = has k (low, high) in subst IsSome (sym (at-union_new (without m old) c k there)) there }))
      (λ y e q n ne there k a b.
      let same = unwrapped x y e in
      let in_x : IsOneOf x k = subst (λ (z : ChunkName). IsOneOf z k) (sym same) a in
      let kept = cut_keeps m names key old is s q n ne there k b in
      both_there (at (without m old) k) (at c k) (subst IsSome (sym kept) ((s.chunks q n there).owned k b.0 b.1)) (has k in_x) (d k))

-- what was cut off is the chunk of the name
pub cut_held : (m : WordMap) (n : ChunkName) (c : Chunk) → n.bytes % 8 ≡ 0 → c.at ≡ n.at → c.bytes ≡ 8 * (n.bytes / 8) → c.part.words ≡ range_of m n.at (n.bytes / 8) → held_in c ≡ held m n
cut_held m n c whole place bytes words =
    let long : c.bytes ≡ n.bytes = omega arith in
    let named : name_of (held_in c) ≡ n = λ i. record { at = place i; bytes = long i } in
    ap (held c.part.words) named ∙ (ap (λ w. held w n) words ∙ held_same (range_of m n.at (n.bytes / 8)) m n (λ k low high. ap (λ (o : Option ℕ). unwrap_or o 0) (at-range_in m n.at (n.bytes / 8) k (within_true n.at (n.bytes / 8) k low high))))

-- and its own words are those of the name
pub held_named : (n : ChunkName) (c : Chunk) → n.at ≡ c.at → n.bytes ≡ c.bytes → held c.part.words n ≡ held_in c
held_named n c place bytes = let named : n ≡ name_of (held_in c) = λ i. record { at = place i; bytes = bytes i } in ap (held c.part.words) named

-- a step was taken on the chunk of a name
pub worked_held : {C R : Type 0} (worked : List ℕ → C → List ℕ × R) (call : C) (n : ChunkName) (m : WordMap) (c d : Chunk) → held_in c ≡ held m n → d.at ≡ c.at → d.bytes ≡ c.bytes → contents d ≡ (worked (contents c) call).0 → held_in d ≡ worked_on worked (held m n) call
worked_held worked call n m c d is place bytes words =
    let here : held_in d ≡ worked_on worked (held_in c) call = λ i. record { at = place i; bytes = bytes i; words = words i } in
    here ∙ ap (λ h. worked_on worked h call) is

-- a store with no names
pub nothing_stored : (m : WordMap) → IsStored m fin.empty
nothing_stored m = record {
  chunks = λ q n e. let none = fin.get-empty {X = ChunkName} (slice_cmp nat_cmp) q in cc;
  apart = λ q other n x e g ne k a b. let none = fin.get-empty {X = ChunkName} (slice_cmp nat_cmp) q in cc;
}

-- a part with just these words has just these when no word was split off it
pub none_split : (m : WordMap) (from at len : ℕ) → HasJust m at len → HasJust (rest_of m from 0) at len
none_split m from at len just = λ k. ap is_some (at-rest_out m from 0 k (let b : is_within from 0 k ≡ false = grind (arith, nat_tests) in b)) ∙ just k

-- the store of what a partition has become
pub storing : (p q : PartitionView ChunkName) (store now : Owned) → q ≡ record p { cells = q.cells } → store.region ≡ p.region → now.region ≡ store.region → IsStored now.words q.cells → IsStoring q now
storing p q store now same here kept s = record { here = kept ∙ (here ∙ sym (ap (λ (w : PartitionView ChunkName). w.region) same)); stored = s }
