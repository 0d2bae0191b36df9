-- The map of chunks that names and words stand for: what it answers, and how it changes with one key.
use Rattle.std.proofs.Common.{◌≡◌, ◌≢◌, ℕ, ◌+◌, ◌/◌, ◌<◌, ◌≤◌, ⊎_elim, Bool, true, false, cond, ◌&&◌, T, List, [], ◌∷◌, map, length, Option, Some, None, is_some, is_none, option_map, refl, sym, ap, ap₂, subst, ◌∙◌, nat_cmp, is_lt}
use Rattle.std.specs.Ordering.{eq_by_cmp}
use Rattle.std.specs.Cmp.Lexicographic.{slice_cmp, nat_list_cmp_total}
use Rattle.std.specs.FinMap as fin
use Rattle.std.specs.FinMap.Entries.{below_all, is_sorted}
use Rattle.std.proofs.lemmas.List.{length-map}
use Rattle.word_map.specs.WordMap.{WordMap}
use Rattle.dshash_core.specs.Chains.{word}
use Rattle.dshash_core.specs.Cells.{KeyMap}
use Rattle.dshash_core.specs.Outcome.{changed, ListsAll}
use Rattle.dshash_core.proofs.Chains.{words_at-same}
use Rattle.dshash_core.proofs.Maps.{same_key, other_key, keys_same_or_not}
use Rattle.dshash_chunks.specs.declared.held.Held.{Held}
use Rattle.dshash_chunks.specs.declared.name.ChunkName.{ChunkName}
use Rattle.dshash_chunks.specs.Held.{held, name_of}
use Rattle.dshash_chunks.specs.Stored.{shown}
use Rattle.dshash_chunks.specs.Outcomes.{ListsNames}

-- keys of one map are equal if they tie
key_antisymmetric : fin.IsAntisymmetric (slice_cmp nat_cmp)
key_antisymmetric = fin.slice_cmp-IsAntisymmetric fin.nat_cmp-IsAntisymmetric

same : {S : Type 0} (m n : KeyMap S) → ((q : List ℕ) → fin.get m q ≡ fin.get n q) → m ≡ n
same m n h = fin.same_map nat_list_cmp_total key_antisymmetric m n h

-- entries with their values mapped
module _ {X Y : Type 0} (f : X → Y) where
  abbrev pub mapped : List (List ℕ × X) → List (List ℕ × Y)
  mapped es = map (λ e. (e.0, f e.1)) es

  pub find-mapped : (q : List ℕ) (es : List (List ℕ × X)) → fin.find (slice_cmp nat_cmp) q (mapped es) ≡ option_map f (fin.find (slice_cmp nat_cmp) q es)
  find-mapped q [] = refl
  find-mapped q (e ∷ es) = elim (eq_by_cmp (slice_cmp nat_cmp) q e.0) as (λ b. cond b (Some (f e.1)) (fin.find (slice_cmp nat_cmp) q (mapped es)) ≡ option_map f (cond b (Some e.1) (fin.find (slice_cmp nat_cmp) q es))) [
    | true ↦ refl
    | false ↦ find-mapped q es
  ]

  below-mapped : (k : List ℕ) (es : List (List ℕ × X)) → below_all (slice_cmp nat_cmp) k (mapped es) ≡ below_all (slice_cmp nat_cmp) k es
  below-mapped k [] = refl
  below-mapped k (e ∷ es) = ap (λ b. is_lt (slice_cmp nat_cmp k e.0) && b) (below-mapped k es)

  pub sorted-mapped : (es : List (List ℕ × X)) → is_sorted (slice_cmp nat_cmp) (mapped es) ≡ is_sorted (slice_cmp nat_cmp) es
  sorted-mapped [] = refl
  sorted-mapped (e ∷ es) = ap₂ (λ a b. a && b) (below-mapped e.0 es) (sorted-mapped es)

  pub is_some-mapped : (o : Option X) → is_some (option_map f o) ≡ is_some o
  is_some-mapped (Some x) = refl
  is_some-mapped None = refl

  pub is_none-mapped : (o : Option X) → is_none (option_map f o) ≡ is_none o
  is_none-mapped (Some x) = refl
  is_none-mapped None = refl

sorted-shown : (m : WordMap) (names : KeyMap ChunkName) → T (is_sorted (slice_cmp nat_cmp) (mapped (held m) (fin.entries names)))
sorted-shown m names = subst T (sym (sorted-mapped (held m) (fin.entries names))) (fin.entries_sorted names)

-- under a key is the chunk of its name
pub get-shown : (m : WordMap) (names : KeyMap ChunkName) (q : List ℕ) → fin.get (shown m names) q ≡ option_map (held m) (fin.get names q)
get-shown m names q =
    fin.get-from_sorted (slice_cmp nat_cmp) (mapped (held m) (fin.entries names)) q (sorted-shown m names)
    ∙ find-mapped (held m) q (fin.entries names)
    ∙ ap (option_map (held m)) (sym (fin.get-entries names q))

-- there are as many keys
pub len-shown : (m : WordMap) (names : KeyMap ChunkName) → fin.len (shown m names) ≡ fin.len names
len-shown m names =
    fin.len-entries (shown m names)
    ∙ ap length (fin.entries-from_sorted (slice_cmp nat_cmp) (mapped (held m) (fin.entries names)) (sorted-shown m names))
    ∙ length-map (fin.entries names) (λ e. (e.0, held m e.1))
    ∙ sym (fin.len-entries names)

pub has-shown : (m : WordMap) (names : KeyMap ChunkName) (q : List ℕ) → fin.contains_key (shown m names) q ≡ fin.contains_key names q
has-shown m names q = ap is_some (get-shown m names q) ∙ is_some-mapped (held m) (fin.get names q)

-- no name, no chunk
pub empty-shown : (m : WordMap) → shown m fin.empty ≡ fin.empty
empty-shown m = same _ _ (λ q. get-shown m fin.empty q ∙ (ap (option_map (held m)) (fin.get-empty (slice_cmp nat_cmp) q) ∙ sym (fin.get-empty (slice_cmp nat_cmp) q)))

-- the same words, the same chunk
pub held_same : (m v : WordMap) (n : ChunkName) → ((k : ℕ) → n.at ≤ k → k < n.at + n.bytes / 8 → word m k ≡ word v k) → held m n ≡ held v n
held_same m v n h = ap (λ (ws : List ℕ). let x : Held = record { at = n.at; bytes = n.bytes; words = ws } in x) (words_at-same (word m) (word v) n.at (n.bytes / 8) h)

-- a map with another state under one key, and one without it
pub changed_here : {S : Type 0} (m : KeyMap S) (key q : List ℕ) (o : Option S) → q ≡ key → fin.get (changed m key o) q ≡ o
changed_here m key q (Some s) e = fin.get-insert nat_list_cmp_total m key s q ∙ ap (λ (b : Bool). cond b (Some s) (fin.get m q)) (same_key q key e)
changed_here m key q None e = fin.get-remove nat_list_cmp_total m key q ∙ ap (λ (b : Bool). cond b None (fin.get m q)) (same_key q key e)

pub changed_else : {S : Type 0} (m : KeyMap S) (key q : List ℕ) (o : Option S) → q ≢ key → fin.get (changed m key o) q ≡ fin.get m q
changed_else m key q (Some s) n = fin.get-insert nat_list_cmp_total m key s q ∙ ap (λ (b : Bool). cond b (Some s) (fin.get m q)) (other_key q key n)
changed_else m key q None n = fin.get-remove nat_list_cmp_total m key q ∙ ap (λ (b : Bool). cond b None (fin.get m q)) (other_key q key n)

-- `names` is `now` with `next` under a key, and the same under all others
pub record Follows (names now : KeyMap ChunkName) (key : List ℕ) (next : Option ChunkName) : Type 0 where
  pub here : fin.get now key ≡ next
  pub others : (q : List ℕ) → q ≢ key → fin.get now q ≡ fin.get names q

pub follows : (names now : KeyMap ChunkName) (key : List ℕ) (next : Option ChunkName) → now ≡ changed names key next → Follows names now key next
follows names now key next e = record {
  here = ap (λ m. fin.get m key) e ∙ changed_here names key key next refl;
  others = λ q n. ap (λ m. fin.get m q) e ∙ changed_else names key q next n;
}

-- the chunks of all other names are as they were
abbrev pub KeepOthers : WordMap → WordMap → KeyMap ChunkName → List ℕ → Type 0
KeepOthers m v names key = (q : List ℕ) (n : ChunkName) → q ≢ key → fin.get names q ≡ Some n → held v n ≡ held m n

alike : (m v : WordMap) (o : Option ChunkName) → ((n : ChunkName) → o ≡ Some n → held v n ≡ held m n) → option_map (held v) o ≡ option_map (held m) o
alike m v (Some n) h = ap Some (h n refl)
alike m v None h = refl

-- the map of chunks then differs at the key alone
pub shown_follows : (m v : WordMap) (names now : KeyMap ChunkName) (key : List ℕ) (next : Option ChunkName) (o : Option Held) → Follows names now key next → KeepOthers m v names key → option_map (held v) next ≡ o → shown v now ≡ changed (shown m names) key o
shown_follows m v names now key next o f keep e = same _ _ (λ q. get-shown v now q ∙ ⊎_elim
    (λ (s : q ≡ key). ap (λ k. option_map (held v) (fin.get now k)) s ∙ (ap (option_map (held v)) f.here ∙ (e ∙ sym (changed_here (shown m names) key q o s))))
    (λ (n : q ≢ key). ap (option_map (held v)) (f.others q n) ∙ (alike m v (fin.get names q) (λ x. keep q x n) ∙ (sym (get-shown m names q) ∙ sym (changed_else (shown m names) key q o n))))
    (keys_same_or_not q key))

-- the entries of a map of names, with their chunks
unnamed : (m : WordMap) (es : List (List ℕ × ChunkName)) → map (λ e. (e.0, name_of e.1)) (mapped (held m) es) ≡ es
unnamed m [] = refl
unnamed m (e ∷ es) = ap (λ l. e ∷ l) (unnamed m es)

pub lists_shown : (m : WordMap) (names : KeyMap ChunkName) (es : List (List ℕ × ChunkName)) → ListsAll names es → ListsNames (shown m names) es
lists_shown m names es l = record {
  entries = mapped (held m) es;
  all = record {
    all = same _ _ (λ q. fin.get-from_entries nat_list_cmp_total (mapped (held m) es) q ∙ (find-mapped (held m) q es ∙ (ap (option_map (held m)) (sym (fin.get-from_entries nat_list_cmp_total es q) ∙ ap (λ n. fin.get n q) l.all) ∙ sym (get-shown m names q))));
    once = length-map es (λ e. (e.0, held m e.1)) ∙ (l.once ∙ sym (len-shown m names));
  };
  names = unnamed m es;
}
