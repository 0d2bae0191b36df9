-- What stores do to the table that stands in words.
use Rattle.std.proofs.Common.{◌≡◌, ◌≢◌, ℕ, suc, ◌+◌, ◌-◌, ◌*◌, ◌/◌, ◌%◌, ◌<◌, ◌≤◌, ◌==◌, Bool, true, false, cond, [], ◌∷◌, ◌++◌, Option, Some, None, IsSome, is_some, unwrap_or, refl, sym, ap, subst, ◌∙◌, arith, length-append}
use Rattle.std.proofs.lemmas.Bool.{false_from_ne_true, eqb-true}
use Rattle.std.proofs.lemmas.Bool.Decides.{nat_tests}
use Rattle.word_map.specs.WordMap.{WordMap, at}
use Rattle.shm_toc.specs.Table.{Table, rounded, free_bytes_of, front_of, place_of, word_of, entries_from, table_of, HasRoomFor, IsTable}
use Rattle.shm_toc.specs.Requests.{empty_table, with_chunk, with_entry}
use Rattle.shm_toc.specs.Held.{IsHeld}
use Rattle.word_map.specs.WordMap.{is_within, rest_of, union, Disjoint}
use Rattle.word_map.proofs.Maps.{at-rest_cond, within_true, within_is, just_has}
use Rattle.word_map.proofs.Uses.{union-left}
use Rattle.word_map.specs.WordMap.{HasJust}
use Rattle.region_words.specs.Parts.{Owned, owned}
use Rattle.shm_toc.proofs.Stores.{other, this, IsStored, stored_at, stored_has, stored_just}
use Rattle.shm_toc.proofs.Entries.{length-entries, word_same, entries_same, entries_more, differ_more}

-- what the numbers of a table are
pub record Sizes (total taken count : ℕ) : Type 0 where
  pub room : 32 + 16 * count + taken ≤ total
  pub whole : total % 32 ≡ 0
  pub whole_chunks : taken % 32 ≡ 0
  pub small : total ≤ 536870912

pub sizes : (m : WordMap) (total taken count : ℕ) → IsHeld m total taken count → Sizes total taken count
sizes m total taken count h =
    let l = length-entries m 4 (word_of m 3) in
    record {
      room = omega (arith, h.table.room, l, h.total_is, h.taken_is, h.count_is);
      whole = ap (λ (z : ℕ). z % 32) (sym h.total_is) ∙ h.table.whole;
      whole_chunks = ap (λ (z : ℕ). z % 32) (sym h.taken_is) ∙ h.table.whole_chunks;
      small = omega (arith, h.table.small, h.total_is);
    }

pub free_is : (m : WordMap) (total taken count : ℕ) → IsHeld m total taken count → total - 32 - 16 * count - taken ≡ free_bytes_of (table_of m)
free_is m total taken count h =
    let l = length-entries m 4 (word_of m 3) in omega (arith, l, h.total_is, h.taken_is, h.count_is)

-- the words below the chunks
pub held_has : (m : WordMap) (total taken count k : ℕ) → IsHeld m total taken count → 8 * k + taken < total → IsSome (at m k)
held_has m total taken count k h low = h.table.owns k (omega (arith, h.total_is, h.taken_is))

-- the words of the entries, and two more where 16 bytes are left
pub entry_has : (m : WordMap) (total taken count more k : ℕ) → IsHeld m total taken count → 32 + 16 * count + taken + 8 * more ≤ total → k < 4 + 2 * count + more → IsSome (at m k)
entry_has m total taken count more k h room low = held_has m total taken count k h (omega arith)

-- how the words change when an entry is put
abbrev pub Puts : WordMap → WordMap → ℕ → ℕ → ℕ → Type 0
Puts m v count key place = (k : ℕ) → at v k ≡ cond {A = Option ℕ} (k == 3) (Some (count + 1)) (cond {A = Option ℕ} (k == 5 + 2 * count) (Some place) (cond {A = Option ℕ} (k == 4 + 2 * count) (Some key) (at m k)))

puts_else : (m v : WordMap) (count key place k : ℕ) → Puts m v count key place → k ≢ 3 → k ≢ 5 + 2 * count → k ≢ 4 + 2 * count → at v k ≡ at m k
puts_else m v count key place k p a b c = p k ∙ other k 3 _ _ a ∙ other k (5 + 2 * count) _ _ b ∙ other k (4 + 2 * count) _ _ c

value_is : (v : WordMap) (k x : ℕ) → at v k ≡ Some x → word_of v k ≡ x
value_is v k x e = ap (λ (o : Option ℕ). unwrap_or o 0) e

pub put_stays : (m v : WordMap) (count key place k : ℕ) → Puts m v count key place → 6 + 2 * count ≤ k → at v k ≡ at m k
put_stays m v count key place k p h = puts_else m v count key place k p (λ e. omega arith) (λ e. omega arith) (λ e. omega arith)

put_table : (m v : WordMap) (count key place : ℕ) → word_of m 3 ≡ count → Puts m v count key place → table_of v ≡ with_entry (table_of m) (record { key = key; place = place })
put_table m v count key place is p =
    let magic = word_same m v 0 (puts_else m v count key place 0 p (λ e. omega arith) (λ e. omega arith) (λ e. omega arith)) in
    let total = word_same m v 1 (puts_else m v count key place 1 p (λ e. omega arith) (λ e. omega arith) (λ e. omega arith)) in
    let taken = word_same m v 2 (puts_else m v count key place 2 p (λ e. omega arith) (λ e. omega arith) (λ e. omega arith)) in
    let third : word_of v 3 ≡ suc count = value_is v 3 (count + 1) (p 3) ∙ (let s : count + 1 ≡ suc count = omega arith in s) in
    let q = 4 + 2 * count in
    let new_key : word_of v q ≡ key = value_is v q key (p q ∙ other q 3 _ _ (λ e. omega arith) ∙ other q (5 + 2 * count) _ _ (λ e. omega arith) ∙ this q (4 + 2 * count) _ _ refl) in
    let new_place : word_of v (suc q) ≡ place = value_is v (suc q) place (p (suc q) ∙ other (suc q) 3 _ _ (λ e. omega arith) ∙ this (suc q) (5 + 2 * count) _ _ (omega arith)) in
    let before : entries_from v 4 count ≡ entries_from m 4 (word_of m 3) =
    entries_same m v 4 count (λ k a b. puts_else m v count key place k p (λ e. omega arith) (λ e. omega arith) (λ e. omega arith)) ∙ ap (entries_from m 4) (sym is) in
    let entries : entries_from v 4 (word_of v 3) ≡ entries_from m 4 (word_of m 3) ++ (record { key = key; place = place } ∷ []) =
    ap (entries_from v 4) third ∙ entries_more v 4 count q refl
    ∙ (λ i. before i ++ (record { key = new_key i; place = new_place i } ∷ [])) in
    λ i. record { magic = magic i; total = total i; taken = taken i; entries = entries i }

-- the first word behind the entries
pub put_front : (m v : WordMap) (count key place : ℕ) → word_of m 3 ≡ count → Puts m v count key place → front_of (table_of v) ≡ 6 + 2 * count
put_front m v count key place is p = let l = length-entries v 4 (word_of v 3) in let t = value_is v 3 (count + 1) (p 3) in omega arith

puts_has : (m v : WordMap) (count key place k : ℕ) → Puts m v count key place → IsSome (at m k) → IsSome (at v k)
puts_has m v count key place k p has = ap is_some (p k) ∙ three (k == 3) (k == 5 + 2 * count) (k == 4 + 2 * count) (at m k) has
  where
    three : (a b c : Bool) (o : Option ℕ) → IsSome o → is_some (cond a (Some (count + 1)) (cond b (Some place) (cond c (Some key) o))) ≡ true
    three true b c o h = refl
    three false true c o h = refl
    three false false true o h = refl
    three false false false o h = h

-- the words that are there are as before
pub puts_keys : (m v : WordMap) (total taken count key place : ℕ) → IsHeld m total taken count → Puts m v count key place → 32 + 16 * (count + 1) + taken ≤ total → (k : ℕ) → is_some (at v k) ≡ is_some (at m k)
puts_keys m v total taken count key place h p room k = ap is_some (p k) ∙ stored (k == 3) refl (k == 5 + 2 * count) refl (k == 4 + 2 * count) refl
  where
    here : (q : ℕ) → (k == q) ≡ true → q < 6 + 2 * count → true ≡ is_some (at m k)
    here q e low = sym (entry_has m total taken count 2 k h (omega arith) (let z = eqb-true k q e in omega (arith, z)))

    stored : (a : Bool) → (k == 3) ≡ a → (b : Bool) → (k == 5 + 2 * count) ≡ b → (c : Bool) → (k == 4 + 2 * count) ≡ c
        → is_some (cond a (Some (count + 1)) (cond b (Some place) (cond c (Some key) (at m k)))) ≡ is_some (at m k)
    stored true e b f c g = here 3 e (omega arith)
    stored false e true f c g = here (5 + 2 * count) f (omega arith)
    stored false e false f true g = here (4 + 2 * count) g (omega arith)
    stored false e false f false g = refl

put_row : (m v : WordMap) (total taken count key place : ℕ) → IsHeld m total taken count → Puts m v count key place → 32 + 16 * (count + 1) + taken ≤ total → HasJust v 0 ((total - taken) / 8)
put_row m v total taken count key place h p room k = puts_keys m v total taken count key place h p room k ∙ h.row k

-- the table after an entry is put behind the others
pub put_held : (m v : WordMap) (total taken count key place : ℕ) → IsHeld m total taken count → Puts m v count key place → place_of (table_of m).entries key ≡ None → 32 + 16 * (count + 1) + taken ≤ total
    → IsHeld v total taken (count + 1) × (table_of v ≡ with_entry (table_of m) (record { key = key; place = place }))
put_held m v total taken count key place h p none room =
    let e = put_table m v count key place h.count_is p in
    let l = length-entries m 4 (word_of m 3) in
    let a = length-append (table_of m).entries (record { key = key; place = place } ∷ []) in (
      record {
        table = subst (HasRoomFor v) (sym e) (record {
          owns = λ k low. puts_has m v count key place k p (h.table.owns k low);
          room = omega (arith, l, a, h.total_is, h.taken_is, h.count_is);
          whole = h.table.whole;
          whole_chunks = h.table.whole_chunks;
          small = h.table.small;
          different = differ_more _ (record { key = key; place = place }) h.table.different none;
        });
        total_is = ap (λ (t : Table). t.total) e ∙ h.total_is;
        taken_is = ap (λ (t : Table). t.taken) e ∙ h.taken_is;
        count_is = value_is v 3 (count + 1) (p 3);
        row = put_row m v total taken count key place h p room;
      },
      e,
    )

pub put_words : (o p q s : Owned) (count key place found : ℕ) → IsStored o p (4 + 2 * count) key → found ≡ place → IsStored p q (5 + 2 * count) found → IsStored q s 3 (count + 1) → Puts o.words s.words count key place
put_words o p q s count key place found a is b c k =
    stored_at q s 3 (count + 1) k c
    ∙ ap (λ (z : Option ℕ). cond {A = Option ℕ} (k == 3) (Some (count + 1)) z)
    (stored_at p q (5 + 2 * count) found k b
    ∙ (λ i. cond {A = Option ℕ} (k == 5 + 2 * count) (Some (is i)) (stored_at o p (4 + 2 * count) key k a i)))

-- the table stands where its words stay
table_same : (m v : WordMap) → ((k : ℕ) → k < 4 + 2 * word_of m 3 → at v k ≡ at m k) → table_of v ≡ table_of m
table_same m v same =
    let magic = word_same m v 0 (same 0 (omega arith)) in
    let total = word_same m v 1 (same 1 (omega arith)) in
    let taken = word_same m v 2 (same 2 (omega arith)) in
    let third = word_same m v 3 (same 3 (omega arith)) in
    let entries = ap (entries_from v 4) third ∙ entries_same m v 4 (word_of m 3) (λ k a b. same k b) in
    λ i. record { magic = magic i; total = total i; taken = taken i; entries = entries i }

-- the table beside words that are apart from it
pub kept_table : (m n : WordMap) → IsTable m → Disjoint m n → IsTable (union m n) × (table_of (union m n) ≡ table_of m)
kept_table m n t apart =
    let here : (k : ℕ) → IsSome (at m k) → at (union m n) k ≡ at m k = λ k has. union-left m n k apart has in
    let l = length-entries m 4 (word_of m 3) in
    let same = table_same m (union m n) (λ k low. here k (t.owns k (omega (arith, t.room, l)))) in (
      subst (HasRoomFor (union m n)) (sym same) (record {
        owns = λ k low. let has = t.owns k low in ap is_some (here k has) ∙ has;
        room = t.room;
        whole = t.whole;
        whole_chunks = t.whole_chunks;
        small = t.small;
        different = t.different;
      }),
      same,
    )

-- how the words change when a chunk goes out
abbrev pub Gives : WordMap → WordMap → ℕ → ℕ → ℕ → Type 0
Gives m v from len taken = (k : ℕ) → at v k ≡ cond {A = Option ℕ} (is_within from len k) None (cond {A = Option ℕ} (k == 2) (Some taken) (at m k))

pub given_words : (o p q : Owned) (from len taken : ℕ) → IsStored o p 2 taken → q ≡ owned p.region (rest_of p.words from len) → Gives o.words q.words from len taken
given_words o p q from len taken a b k =
    ap (λ (z : Owned). at z.words k) b ∙ at-rest_cond p.words from len k
    ∙ ap (λ (z : Option ℕ). cond {A = Option ℕ} (is_within from len k) None z) (stored_at o p 2 taken k a)

not_within : (from len k : ℕ) → k < from → is_within from len k ≡ false
not_within from len k low = go (is_within from len k) refl
  where
    go : (b : Bool) → is_within from len k ≡ b → b ≡ false
    go false e = refl
    go true e = absurd (let p = within_is from len k e in omega arith)

gives_low : (m v : WordMap) (from len taken k : ℕ) → Gives m v from len taken → k < from → at v k ≡ cond {A = Option ℕ} (k == 2) (Some taken) (at m k)
gives_low m v from len taken k g low = g k ∙ ap (λ b. cond {A = Option ℕ} b None (cond {A = Option ℕ} (k == 2) (Some taken) (at m k))) (not_within from len k low)

-- no word comes
pub gives_fewer : (m v : WordMap) (from len taken k : ℕ) → Gives m v from len taken → IsSome (at m 2) → IsSome (at v k) → IsSome (at m k)
gives_fewer m v from len taken k g two has = left (is_within from len k) (k == 2) refl (sym (ap is_some (g k)) ∙ has)
  where
    left : (a b : Bool) → (k == 2) ≡ b → is_some (cond a None (cond {A = Option ℕ} b (Some taken) (at m k))) ≡ true → IsSome (at m k)
    left true b e h = cc
    left false true e h = ap (λ (z : ℕ). is_some (at m z)) (eqb-true k 2 e) ∙ two
    left false false e h = h

-- a word of a row that is not one of its last is one of the others
same_row : (all from len k : ℕ) → all ≡ from + len → is_within from len k ≡ false → is_within 0 all k ≡ is_within 0 from k
same_row all from len k e out = grind (arith, nat_tests)

-- the words that are left are a row
given_row : (m v : WordMap) (total taken count wanted : ℕ) → IsHeld m total taken count → wanted % 32 ≡ 0 → 32 + 16 * count + taken + wanted ≤ total
    → Gives m v ((total - (taken + wanted)) / 8) (wanted / 8) (taken + wanted) → HasJust v 0 ((total - (taken + wanted)) / 8)
given_row m v total taken count wanted h units room g k =
    ap is_some (g k) ∙ left (is_within ((total - (taken + wanted)) / 8) (wanted / 8) k) refl (k == 2) refl
  where
    left : (a : Bool) → is_within ((total - (taken + wanted)) / 8) (wanted / 8) k ≡ a → (b : Bool) → (k == 2) ≡ b
        → is_some (cond a None (cond {A = Option ℕ} b (Some (taken + wanted)) (at m k))) ≡ is_within 0 ((total - (taken + wanted)) / 8) k
    left true e b f = sym (false_from_ne_true (is_within 0 ((total - (taken + wanted)) / 8) k) (λ z. let i = within_is _ _ k e in let j = within_is _ _ k z in omega (arith, i.0, j.1)))
    left false e true f = sym (within_true 0 ((total - (taken + wanted)) / 8) k (omega arith) (let z = eqb-true k 2 f in omega (arith, z)))
    left false e false f = h.row k ∙ same_row ((total - taken) / 8) ((total - (taken + wanted)) / 8) (wanted / 8) k (omega arith) e

-- the table after a chunk goes out
pub given_held : (m v : WordMap) (total taken count bytes wanted : ℕ) → IsHeld m total taken count → wanted ≡ rounded bytes → 32 + 16 * count + taken + wanted ≤ total
    → Gives m v ((total - (taken + wanted)) / 8) (wanted / 8) (taken + wanted)
    → IsHeld v total (taken + wanted) count × (table_of v ≡ with_chunk (table_of m) bytes)
given_held m v total taken count bytes wanted h w room g =
    let from = (total - (taken + wanted)) / 8 in
    let front : 4 + 2 * count ≤ from = omega arith in
    let else_at : (k : ℕ) → k < from → k ≢ 2 → at v k ≡ at m k = λ k low n. gives_low m v from (wanted / 8) (taken + wanted) k g low ∙ other k 2 _ _ n in
    let magic = word_same m v 0 (else_at 0 (omega arith) (λ e. omega arith)) in
    let total_same = word_same m v 1 (else_at 1 (omega arith) (λ e. omega arith)) in
    let third = word_same m v 3 (else_at 3 (omega arith) (λ e. omega arith)) in
    let second : at v 2 ≡ Some (taken + wanted) = gives_low m v from (wanted / 8) (taken + wanted) 2 g (omega arith) in
    let taken_new : word_of v 2 ≡ word_of m 2 + rounded bytes = value_is v 2 (taken + wanted) second ∙ ap (λ (z : ℕ). z + wanted) (sym h.taken_is) ∙ ap (λ (z : ℕ). word_of m 2 + z) w in
    let entries : entries_from v 4 (word_of v 3) ≡ entries_from m 4 (word_of m 3) =
    ap (entries_from v 4) third ∙ entries_same m v 4 (word_of m 3) (λ k a b. else_at k (omega (arith, h.count_is)) (λ e. omega arith)) in
    let e : table_of v ≡ with_chunk (table_of m) bytes = λ i. record { magic = magic i; total = total_same i; taken = taken_new i; entries = entries i } in
    let l = length-entries m 4 (word_of m 3) in (
      record {
        table = subst (HasRoomFor v) (sym e) (record {
          owns = λ k low. let b : k < from = omega (arith, h.total_is, h.taken_is, w) in
              ap is_some (gives_low m v from (wanted / 8) (taken + wanted) k g b) ∙ some_two (k == 2) (at m k) (h.table.owns k (omega arith));
          room = omega (arith, l, h.total_is, h.taken_is, h.count_is, w);
          whole = h.table.whole;
          whole_chunks = omega (arith, h.table.whole_chunks);
          small = h.table.small;
          different = h.table.different;
        });
        total_is = total_same ∙ h.total_is;
        taken_is = value_is v 2 (taken + wanted) second;
        count_is = third ∙ h.count_is;
        row = given_row m v total taken count wanted h (omega arith) room g;
      },
      e,
    )
  where
    some_two : (b : Bool) (o : Option ℕ) → IsSome o → is_some (cond b (Some (taken + wanted)) o) ≡ true
    some_two true o h = refl
    some_two false o h = h

-- the new table
pub created : (o p q s t : Owned) (words magic : ℕ) → IsStored o p 0 magic → IsStored p q 1 (8 * words) → IsStored q s 2 0 → IsStored s t 3 0
    → HasJust o.words 0 words → 4 ≤ words → words % 4 ≡ 0 → words ≤ 67108864
    → IsHeld t.words (8 * words) 0 0 × (table_of t.words ≡ empty_table magic (8 * words)) × ((k : ℕ) → 4 ≤ k → at t.words k ≡ at o.words k)
created o p q s t words magic a b c d just some four few =
    let all : (k : ℕ) → at t.words k ≡ cond {A = Option ℕ} (k == 3) (Some 0) (cond {A = Option ℕ} (k == 2) (Some 0) (cond {A = Option ℕ} (k == 1) (Some (8 * words)) (cond {A = Option ℕ} (k == 0) (Some magic) (at o.words k)))) =
    λ k. stored_at s t 3 0 k d ∙ ap (λ (z : Option ℕ). cond {A = Option ℕ} (k == 3) (Some 0) z)
    (stored_at q s 2 0 k c ∙ ap (λ (z : Option ℕ). cond {A = Option ℕ} (k == 2) (Some 0) z)
    (stored_at p q 1 (8 * words) k b ∙ ap (λ (z : Option ℕ). cond {A = Option ℕ} (k == 1) (Some (8 * words)) z) (stored_at o p 0 magic k a))) in
    let has : (k : ℕ) → k < words → IsSome (at o.words k) = λ k low. just k ∙ within_true 0 words k (omega arith) (omega arith) in
    let row_p = stored_just o p 0 magic words a (has 0 (omega arith)) just in
    let row_q = stored_just p q 1 (8 * words) words b (just_has p.words 0 words 1 row_p (omega arith) (omega arith)) row_p in
    let row_s = stored_just q s 2 0 words c (just_has q.words 0 words 2 row_q (omega arith) (omega arith)) row_q in
    let row = stored_just s t 3 0 words d (just_has s.words 0 words 3 row_s (omega arith) (omega arith)) row_s in
    let zeroth : word_of t.words 0 ≡ magic = value_is t.words 0 magic (all 0) in
    let first : word_of t.words 1 ≡ 8 * words = value_is t.words 1 (8 * words) (all 1) in
    let second : word_of t.words 2 ≡ 0 = value_is t.words 2 0 (all 2) in
    let third : word_of t.words 3 ≡ 0 = value_is t.words 3 0 (all 3) in
    let entries : entries_from t.words 4 (word_of t.words 3) ≡ [] = ap (entries_from t.words 4) third in
    let e : table_of t.words ≡ empty_table magic (8 * words) = λ i. record { magic = zeroth i; total = first i; taken = second i; entries = entries i } in (
      record {
        table = subst (HasRoomFor t.words) (sym e) (record {
          owns = λ k low. stored_has s t 3 0 k d (stored_has q s 2 0 k c (stored_has p q 1 (8 * words) k b (stored_has o p 0 magic k a (just k ∙ within_true 0 words k (omega arith) (omega arith)))));
          room = omega arith;
          whole = omega arith;
          whole_chunks = refl;
          small = omega arith;
          different = tt;
        });
        total_is = first;
        taken_is = second;
        count_is = third;
        row = subst (HasJust t.words 0) (let z : words ≡ (8 * words - 0) / 8 = omega arith in z) row;
      },
      e,
      λ k high. all k ∙ other k 3 _ _ (λ z. omega arith) ∙ other k 2 _ _ (λ z. omega arith) ∙ other k 1 _ _ (λ z. omega arith) ∙ other k 0 _ _ (λ z. omega arith),
    )

-- where the entries of a table are, for a walk over them
pub table_has : (o p : Owned) (count k : ℕ) → IsTable o.words → at o.words 3 ≡ Some count → p ≡ o → k < 4 + 2 * count → IsSome (at p.words k)
table_has o p count k t e same low =
    let l = length-entries o.words 4 (word_of o.words 3) in
    let c = value_is o.words 3 count e in
    subst (λ (z : Owned). IsSome (at z.words k)) (sym same) (t.owns k (omega (arith, t.room)))

pub table_few : (o : Owned) (count : ℕ) → IsTable o.words → at o.words 3 ≡ Some count → count < 4294967296
table_few o count t e =
    let l = length-entries o.words 4 (word_of o.words 3) in
    let c = value_is o.words 3 count e in
    omega (arith, t.room, t.small)

pub read_is : (o p : Owned) (k x : ℕ) → o ≡ p → at o.words k ≡ Some x → word_of p.words k ≡ x
read_is o p k x same e = value_is p.words k x (ap (λ (z : Owned). at z.words k) (sym same) ∙ e)
