-- What stores in a superblock's record and its objects do to it.
use Rattle.std.proofs.Common.{◌≡◌, ◌≢◌, ℕ, ◌+◌, ◌-◌, ◌<◌, ◌≤◌, ⊎_elim, Bool, true, false, cond, ◌||◌, Option, Some, None, is_some, IsSome, refl, sym, ap, subst, ◌∙◌, arith}
use mathlib.Core.Logic.{dite}
use native.Mathlib.Decide.{ℕ_discrete}
use Rattle.std.specs.FinMap as fin
use Rattle.word_map.specs.WordMap.{WordMap, at, HasJust, Disjoint, is_within, range_of, rest_of, union}
use Rattle.word_map.proofs.Maps.{at-insert_same, at-insert_other, insert-keys, at-rest_in, at-rest_out, at-union_cond, within_true}
use Rattle.region_words.specs.Parts.{Owned, owned}
use Rattle.span_pools.specs.declared.layout.Layout.{Layout}
use Rattle.span_pools.specs.Places.{base, place, record_at, IsLayout}
use Rattle.span_pools.specs.Listed.{IsListed}
use Rattle.span_pools.specs.View.{owns, first_word, IsRecordOf, IsPopped, SameRecords, IsNext, IsTakenOut, IsPutBack, IsAdmitted}
use Rattle.span_pools.proofs.FreeLists.{pop_listed, pop_fresh, push_listed}
use Rattle.span_pools.proofs.Covers.{other_object, place_in, place_positive, record_in}

pub some_same : (x y : ℕ) → Some x ≡ Some y → x ≡ y
some_same x y e = cc

-- a record's word gets another value
pub record_stored : (l : Layout) (p n x : ℕ) (before after : Owned) → n < 7 → IsSome (at before.words (record_at l p + n)) → after ≡ owned before.region (fin.insert before.words (record_at l p + n) x) → SameRecords l p before after
record_stored l p n x before after low has e = record {
  region = ap (λ (o : Owned). o.region) e;
  keys = λ k. ap (λ (o : Owned). owns o.words k) e ∙ insert-keys before.words (record_at l p + n) x k has;
  others = λ k h. ap (λ (o : Owned). at o.words k) e ∙ at-insert_other before.words (record_at l p + n) x k (λ s. ⊎_elim (λ (y : k < record_at l p). omega arith) (λ (y : record_at l p + 7 ≤ k). omega arith) h);
}

pub records_twice : (l : Layout) (p : ℕ) (a b c : Owned) → SameRecords l p a b → SameRecords l p b c → SameRecords l p a c
records_twice l p a b c x y = record {
  region = y.region ∙ x.region;
  keys = λ k. y.keys k ∙ x.keys k;
  others = λ k h. y.others k h ∙ x.others k h;
}

stored_here : (before after : Owned) (k x : ℕ) → after ≡ owned before.region (fin.insert before.words k x) → at after.words k ≡ Some x
stored_here before after k x e = ap (λ (o : Owned). at o.words k) e ∙ at-insert_same before.words k x k refl

stored_else : (before after : Owned) (k x j : ℕ) → j ≢ k → after ≡ owned before.region (fin.insert before.words k x) → at after.words j ≡ at before.words j
stored_else before after k x j n e = ap (λ (o : Owned). at o.words j) e ∙ at-insert_other before.words k x j n

lists_as : (l : Layout) (p : ℕ) (words : WordMap) (room head room2 head2 used : ℕ) → room ≡ room2 → head ≡ head2 → IsListed l.objects (place l p) (first_word l words p) room head used → IsListed l.objects (place l p) (first_word l words p) room2 head2 used
lists_as l p words room head room2 head2 used e f b =
    subst (λ (z : ℕ). IsListed l.objects (place l p) (first_word l words p) z head2 used) e (subst (λ (z : ℕ). IsListed l.objects (place l p) (first_word l words p) room z used) f b)

-- the record's words are there
pub listed_owned : (l : Layout) (p head : ℕ) (records words : WordMap) → IsRecordOf l records words p → at records (record_at l p + 1) ≡ Some head → 0 < head → IsSome (at words head)
listed_owned l p head records words b e some =
    let same : b.head ≡ head = some_same b.head head (sym b.head_is ∙ e) in
    let q = pop_listed l.objects (place l p) (first_word l words p) b.room head b.used (lists_as l p words b.room b.head b.room head b.used refl same b.lists) some in
    ap (λ (z : ℕ). is_some (at words z)) q.2 ∙ ap is_some q.3.1

-- the first object of the list goes next
pub next_listed : (l : Layout) (p room head x : ℕ) (records words after : Owned) → IsRecordOf l records.words words.words p → at records.words (record_at l p) ≡ Some room → at records.words (record_at l p + 1) ≡ Some head → 0 < head
    → at words.words head ≡ Some x → after ≡ owned records.region (fin.insert records.words (record_at l p + 1) x) → IsNext l p records words after room head
next_listed l p room head x records words after b room_is head_is some x_is e =
    let same : b.head ≡ head = some_same b.head head (sym b.head_is ∙ head_is) in
    let same_room : b.room ≡ room = some_same b.room room (sym b.room_is ∙ room_is) in
    let q = pop_listed l.objects (place l p) (first_word l words.words p) room head b.used (lists_as l p words.words b.room b.head room head b.used same_room same b.lists) some in
    let next : q.3.0 ≡ x = some_same q.3.0 x (sym q.3.1 ∙ sym (ap (at words.words) q.2) ∙ x_is) in
    record {
      index = q.0;
      low = q.1;
      at_is = q.2;
      was_free = ap is_some q.3.1;
      head = x;
      used = b.used;
      head_is = stored_here records after (record_at l p + 1) x e;
      used_is = stored_else records after (record_at l p + 1) x (record_at l p + 2) (λ s. omega arith) e ∙ b.used_is;
      room_same = stored_else records after (record_at l p + 1) x (record_at l p) (λ s. omega arith) e;
      popped = subst (λ (z : ℕ). IsPopped l.objects (place l p) (first_word l words.words p) q.0 (room - 1) z b.used) next q.3.2;
      same = record_stored l p 1 x records after (omega arith) (ap is_some head_is) e;
    }

-- an object that was never used goes next
pub next_fresh : (l : Layout) (p room head used : ℕ) (records words after : Owned) → IsLayout l → IsRecordOf l records.words words.words p → at records.words (record_at l p) ≡ Some room → at records.words (record_at l p + 1) ≡ Some head → head ≡ 0
    → at records.words (record_at l p + 2) ≡ Some used → 0 < room → after ≡ owned records.region (fin.insert records.words (record_at l p + 2) (used + 1)) → IsNext l p records words after room (place l p used)
next_fresh l p room head used records words after a b room_is head_is none used_is some e =
    let same_head : b.head ≡ head = some_same b.head head (sym b.head_is ∙ head_is) in
    let same_room : b.room ≡ room = some_same b.room room (sym b.room_is ∙ room_is) in
    let same_used : b.used ≡ used = some_same b.used used (sym b.used_is ∙ used_is) in
    let lists : IsListed l.objects (place l p) (first_word l words.words p) room head used = subst (λ (z : ℕ). IsListed l.objects (place l p) (first_word l words.words p) room head z) same_used (lists_as l p words.words b.room b.head room head b.used same_room same_head b.lists) in
    let q = pop_fresh l.objects (place l p) (first_word l words.words p) room head used (λ i. place_positive l p i a) lists none some in
    record {
      index = used;
      low = q.0;
      at_is = refl;
      was_free = q.1;
      head = 0;
      used = used + 1;
      head_is = stored_else records after (record_at l p + 2) (used + 1) (record_at l p + 1) (λ s. omega arith) e ∙ head_is ∙ ap Some none;
      used_is = stored_here records after (record_at l p + 2) (used + 1) e;
      room_same = stored_else records after (record_at l p + 2) (used + 1) (record_at l p) (λ s. omega arith) e;
      popped = q.2;
      same = record_stored l p 2 (used + 1) records after (omega arith) (ap is_some used_is) e;
    }

-- the object that goes next is out
pub taken_out : (l : Layout) (p room at_word : ℕ) (records words mid records2 words2 part : Owned) → IsLayout l → at records.words (record_at l p) ≡ Some room → IsNext l p records words mid room at_word
    → records2 ≡ owned mid.region (fin.insert mid.words (record_at l p) (room - 1)) → words2 ≡ owned words.region (rest_of words.words at_word l.size) → part ≡ owned words.region (range_of words.words at_word l.size)
    → IsTakenOut l p records words records2 words2 part at_word
taken_out l p room at_word records words mid records2 words2 part a room_is n e f g =
    let zero : record_at l p + 0 ≡ record_at l p = omega arith in
    let has : IsSome (at mid.words (record_at l p + 0)) = ap (λ (z : ℕ). is_some (at mid.words z)) zero ∙ ap is_some (n.room_same ∙ room_is) in
    let store : records2 ≡ owned mid.region (fin.insert mid.words (record_at l p + 0) (room - 1)) = e ∙ ap (λ (z : ℕ). owned mid.region (fin.insert mid.words z (room - 1))) (sym zero) in
    record {
      index = n.index;
      low = n.low;
      at_is = n.at_is;
      was_free = n.was_free;
      rest = f;
      range = g;
      same = records_twice l p records mid records2 n.same (record_stored l p 0 (room - 1) mid records2 (omega arith) has store);
      less = λ x h. stored_here mid records2 (record_at l p) (room - 1) e ∙ ap (λ (z : ℕ). Some (z - 1)) (some_same room x (sym room_is ∙ h));
      says = record {
        room = room - 1;
        head = n.head;
        used = n.used;
        room_is = stored_here mid records2 (record_at l p) (room - 1) e;
        head_is = stored_else mid records2 (record_at l p) (room - 1) (record_at l p + 1) (λ s. omega arith) e ∙ n.head_is;
        used_is = stored_else mid records2 (record_at l p) (room - 1) (record_at l p + 2) (λ s. omega arith) e ∙ n.used_is;
        lists = n.popped (first_word l words2.words p)
            (ap (λ (o : Owned). at o.words (place l p n.index)) f ∙ at-rest_in words.words at_word l.size (place l p n.index)
            (subst (λ (z : ℕ). is_within z l.size (place l p n.index) ≡ true) (sym n.at_is) (place_in l p n.index a n.low)))
            (λ j m. ap (λ (o : Owned). at o.words (place l p j)) f ∙ at-rest_out words.words at_word l.size (place l p j)
            (subst (λ (z : ℕ). is_within z l.size (place l p j) ≡ false) (sym n.at_is) (other_object l p n.index j a m)));
      };
    }

some_union : (o p : Option ℕ) → is_some (cond (is_some o) o p) ≡ (is_some p || is_some o)
some_union (Some x) (Some y) = refl
some_union (Some x) None = refl
some_union None (Some y) = refl
some_union None None = refl

-- what the words of both are, where the second has just the words of a range
pub union_keys : (m n : WordMap) (from len k : ℕ) → HasJust n from len → is_some (at (union m n) k) ≡ (is_some (at m k) || is_within from len k)
union_keys m n from len k just = ap is_some (at-union_cond m n k) ∙ some_union (at n k) (at m k) ∙ ap (λ (b : Bool). is_some (at m k) || b) (just k)

pub union_else : (m n : WordMap) (from len k : ℕ) → HasJust n from len → is_within from len k ≡ false → at (union m n) k ≡ at m k
union_else m n from len k just out = at-union_cond m n k ∙ ap (λ (b : Bool). cond b (at n k) (at m k)) (just k ∙ out)

pub union_has : (m n : WordMap) (from len k : ℕ) → HasJust n from len → is_within from len k ≡ true → IsSome (at (union m n) k)
union_has m n from len k just inside = union_keys m n from len k just ∙ or_right (is_some (at m k)) (is_within from len k) inside
  where
    or_right : (a b : Bool) → b ≡ true → (a || b) ≡ true
    or_right true b e = refl
    or_right false b e = e

-- what the second has the first has not
pub apart_none : (m n : WordMap) (from len k : ℕ) → Disjoint m n → HasJust n from len → is_within from len k ≡ true → is_some (at m k) ≡ false
apart_none m n from len k apart just inside = go (at m k) (at n k) refl refl
  where
    go : (o p : Option ℕ) → at m k ≡ o → at n k ≡ p → is_some o ≡ false
    go (Some x) (Some y) e f = absurd (apart k x y e f)
    go (Some x) None e f = let z : is_some (at n k) ≡ true = just k ∙ inside in let y : is_some (at n k) ≡ false = ap is_some f in let q : true ≡ false = sym z ∙ y in cc
    go None p e f = refl

-- a word that is there stays there
pub keep_has : (before after : Owned) (k x j : ℕ) → after ≡ owned before.region (fin.insert before.words k x) → IsSome (at before.words j) → IsSome (at after.words j)
keep_has before after k x j e h = dite (ℕ_discrete j k)
    (λ (s : j ≡ k). ap (λ (o : Owned). is_some (at o.words j)) e ∙ ap is_some (at-insert_same before.words k x j s))
    (λ (n : j ≢ k). ap is_some (stored_else before after k x j n e) ∙ h)

-- an object is back
pub put_back : (l : Layout) (p room head at_word : ℕ) (records words part records1 records2 words2 : Owned) → IsLayout l → IsRecordOf l records.words words.words p → ((i : ℕ) × (i < l.objects) × (at_word ≡ place l p i))
    → HasJust part.words at_word l.size → Disjoint words.words part.words → at records.words (record_at l p) ≡ Some room → at records.words (record_at l p + 1) ≡ Some head
    → words2 ≡ owned words.region (fin.insert (union words.words part.words) at_word head)
    → records1 ≡ owned records.region (fin.insert records.words (record_at l p + 1) at_word)
    → records2 ≡ owned records1.region (fin.insert records1.words (record_at l p) (room + 1)) → IsPutBack l p records words records2 words2 at_word
put_back l p room head at_word records words part records1 records2 words2 a b o just apart room_is head_is w e f =
    let i = o.0 in
    let inside : is_within at_word l.size at_word ≡ true = within_true at_word l.size at_word (omega arith) (let s = a.size in omega arith) in
    let live : owns words.words at_word ≡ false = apart_none words.words part.words at_word l.size at_word apart just inside in
    let same_head : b.head ≡ head = some_same b.head head (sym b.head_is ∙ head_is) in
    let same_room : b.room ≡ room = some_same b.room room (sym b.room_is ∙ room_is) in
    let others : (k : ℕ) → is_within at_word l.size k ≡ false → at words2.words k ≡ at words.words k = λ k out.
    ap (λ (x : Owned). at x.words k) w ∙ at-insert_other (union words.words part.words) at_word head k (λ s. let z : true ≡ false = sym inside ∙ (ap (is_within at_word l.size) (sym s) ∙ out) in let y : ⊥ = cc in y)
    ∙ union_else words.words part.words at_word l.size k just out in
    let zero : record_at l p + 0 ≡ record_at l p = omega arith in
    let first = record_stored l p 1 at_word records records1 (omega arith) (ap is_some head_is) e in
    let room1 : at records1.words (record_at l p) ≡ Some room = stored_else records records1 (record_at l p + 1) at_word (record_at l p) (λ s. omega arith) e ∙ room_is in
    let second = record_stored l p 0 (room + 1) records1 records2 (omega arith) (ap (λ (z : ℕ). is_some (at records1.words z)) zero ∙ ap is_some room1) (f ∙ ap (λ (z : ℕ). owned records1.region (fin.insert records1.words z (room + 1))) (sym zero)) in
    record {
      index = i;
      low = o.1;
      at_is = o.2;
      was_live = subst (λ (z : ℕ). owns words.words z ≡ false) o.2 live;
      region = ap (λ (x : Owned). x.region) w;
      keys = λ k. ap (λ (x : Owned). owns x.words k) w ∙ insert-keys (union words.words part.words) at_word head k (union_has words.words part.words at_word l.size at_word just inside) ∙ union_keys words.words part.words at_word l.size k just;
      others = others;
      same = records_twice l p records records1 records2 first second;
      more = λ x e. stored_here records1 records2 (record_at l p) (room + 1) f ∙ ap (λ (z : ℕ). Some (z + 1)) (some_same room x (sym room_is ∙ e));
      says = record {
        room = room + 1;
        head = at_word;
        used = b.used;
        room_is = stored_here records1 records2 (record_at l p) (room + 1) f;
        head_is = stored_else records1 records2 (record_at l p) (room + 1) (record_at l p + 1) (λ s. omega arith) f ∙ stored_here records records1 (record_at l p + 1) at_word e;
        used_is = stored_else records1 records2 (record_at l p) (room + 1) (record_at l p + 2) (λ s. omega arith) f ∙ stored_else records records1 (record_at l p + 1) at_word (record_at l p + 2) (λ s. omega arith) e ∙ b.used_is;
        lists = subst (λ (z : ℕ). IsListed l.objects (place l p) (first_word l words2.words p) (room + 1) z b.used) (sym o.2)
            (push_listed l.objects (place l p) (first_word l words.words p) (first_word l words2.words p) room head b.used i (lists_as l p words.words b.room b.head room head b.used same_room same_head b.lists) o.1
            (subst (λ (z : ℕ). owns words.words z ≡ false) o.2 live)
            (subst (λ (z : ℕ). at words2.words z ≡ Some head) o.2 (stored_here (owned words.region (union words.words part.words)) words2 at_word head w))
            (λ j n. others (place l p j) (subst (λ (z : ℕ). is_within z l.size (place l p j) ≡ false) (sym o.2) (other_object l p i j a n))));
      };
    }

-- a superblock is in
pub admitted : (l : Layout) (p : ℕ) (records words control run joined one two records2 words1 words2 part : Owned) → IsLayout l → HasJust control.words (record_at l p) 112 → Disjoint records.words control.words
    → joined ≡ owned records.region (union records.words control.words) → one ≡ owned joined.region (fin.insert joined.words (record_at l p) (l.objects - 1)) → two ≡ owned one.region (fin.insert one.words (record_at l p + 1) 0)
    → records2 ≡ owned two.region (fin.insert two.words (record_at l p + 2) 1) → words1 ≡ owned words.region (union words.words run.words)
    → words2 ≡ owned words1.region (rest_of words1.words (base l p) l.size) → part ≡ owned words1.region (range_of words1.words (base l p) l.size)
    → IsAdmitted l p records words control run records2 words2 part
admitted l p records words control run joined one two records2 words1 words2 part a just apart e0 e1 e2 e3 w f g =
    let has0 : (k : ℕ) → is_within (record_at l p) 112 k ≡ true → IsSome (at joined.words k) = λ k h. ap (λ (o : Owned). is_some (at o.words k)) e0 ∙ union_has records.words control.words (record_at l p) 112 k just h in
    let keys1 : (k : ℕ) → owns one.words k ≡ owns joined.words k = λ k. ap (λ (o : Owned). owns o.words k) e1 ∙ insert-keys joined.words (record_at l p) (l.objects - 1) k (has0 (record_at l p) (record_in l p 0 (record_at l p) (omega arith) (omega arith))) in
    let keys2 : (k : ℕ) → owns two.words k ≡ owns one.words k = λ k. ap (λ (o : Owned). owns o.words k) e2 ∙ insert-keys one.words (record_at l p + 1) 0 k (keys1 (record_at l p + 1) ∙ has0 (record_at l p + 1) (record_in l p 1 (record_at l p + 1) (omega arith) refl)) in
    let keys3 : (k : ℕ) → owns records2.words k ≡ owns two.words k = λ k. ap (λ (o : Owned). owns o.words k) e3 ∙ insert-keys two.words (record_at l p + 2) 1 k (keys2 (record_at l p + 2) ∙ keys1 (record_at l p + 2) ∙ has0 (record_at l p + 2) (record_in l p 2 (record_at l p + 2) (omega arith) refl)) in
    record {
      apart = apart;
      region = ap (λ (o : Owned). o.region) e3 ∙ ap (λ (o : Owned). o.region) e2 ∙ ap (λ (o : Owned). o.region) e1 ∙ ap (λ (o : Owned). o.region) e0;
      keys = λ k. keys3 k ∙ keys2 k ∙ keys1 k ∙ ap (λ (o : Owned). owns o.words k) e0 ∙ union_keys records.words control.words (record_at l p) 112 k just;
      others = λ k out.
          let unlike : (n : ℕ) → n < 112 → k ≢ record_at l p + n = λ n h s. (let z : true ≡ false = sym (within_true (record_at l p) 112 k (omega arith) (omega arith)) ∙ out in let y : ⊥ = cc in y) in
          stored_else two records2 (record_at l p + 2) 1 k (unlike 2 (omega arith)) e3 ∙ stored_else one two (record_at l p + 1) 0 k (unlike 1 (omega arith)) e2
          ∙ stored_else joined one (record_at l p) (l.objects - 1) k (λ s. unlike 0 (omega arith) (omega arith)) e1
          ∙ ap (λ (o : Owned). at o.words k) e0 ∙ union_else records.words control.words (record_at l p) 112 k just out;
      room_is = stored_else two records2 (record_at l p + 2) 1 (record_at l p) (λ s. omega arith) e3 ∙ stored_else one two (record_at l p + 1) 0 (record_at l p) (λ s. omega arith) e2 ∙ stored_here joined one (record_at l p) (l.objects - 1) e1;
      head_is = stored_else two records2 (record_at l p + 2) 1 (record_at l p + 1) (λ s. omega arith) e3 ∙ stored_here one two (record_at l p + 1) 0 e2;
      used_is = stored_here two records2 (record_at l p + 2) 1 e3;
      rest = f ∙ ap (λ (o : Owned). owned o.region (rest_of o.words (base l p) l.size)) w;
      range = g ∙ ap (λ (o : Owned). owned o.region (range_of o.words (base l p) l.size)) w;
    }

pub union_any : (m n : WordMap) (k : ℕ) → is_some (at (union m n) k) ≡ (is_some (at m k) || is_some (at n k))
union_any m n k = ap is_some (at-union_cond m n k) ∙ some_union (at n k) (at m k)
