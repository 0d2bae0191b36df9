-- A worker that was asked, among all workers.
use Rattle.std.proofs.Common.{◌≡◌, ◌≢◌, ◌==◌, ◌&&◌, ◌<◌, ◌≤◌, ◌+◌, ◌++◌, Bool, true, false, ℕ, zero, suc, List, [], ◌∷◌, length, set, get_or, map, take, All, Any, Option, None, Some, is_some, refl, ap, sym, subst, ◌∙◌, append-nil, append_assoc, arith}
use Rattle.std.specs.List.{AllZip, flat_map}
use Rattle.std.proofs.lemmas.List.{get_or-set_other, length-map, length-set, take_more_set}
use Rattle.std.proofs.lemmas.List.Concat.{flat_map-append}
use Rattle.std.proofs.lemmas.List.Elements.{All-get_or, All-nil, All-push}
use Rattle.std.proofs.lemmas.List.Quantifiers.{any-set}
use Rattle.parallel_ctx.proofs.Queues.{same-trans}
use Rattle.parallel_ctx.proofs.Zips.{AllZip-through}
use Rattle.mq_handle.specs.Messages.{whole_of}
use Rattle.ring_rule.specs.Ring.{Receiving}
use Rattle.parallel_ctx.specs.Accounts.{is_over}
use Rattle.parallel_ctx.specs.Tokens.{SameQueues}
use Rattle.parallel_ctx.specs.declared.tokens.LeaderEnds.{LeaderEnds}
use Rattle.gather_merge.specs.Hearing.{HasGivenNoRow, Hears, HearsAll, HearsEnd, HearsRows, IsOver, NamedBy, notices_of, rows_given}
use Rattle.gather_merge.specs.declared.MergeAnswer.{MergeAnswer}
use Rattle.gather_merge.specs.declared.MergeAnswer.TheVariants as merging
use Rattle.gather_merge.specs.declared.hearing.Next.{Next}
use Rattle.gather_merge.specs.declared.hearing.Next.TheVariants.{Row, Over, Names, Lost}
use Rattle.worker_run.specs.Notices.{HasTakenAll, ReadsRow}
use Rattle.gather_merge.specs.Sent.{row_of}

map-set : {A B : Type 0} (f : A → B) (xs : List A) (k : ℕ) (x : A) → map f (set xs k x) ≡ set (map f xs) k (f x)
map-set f [] k x = refl
map-set f (y ∷ ys) zero x = refl
map-set f (y ∷ ys) (suc k) x = ap (λ l. f y ∷ l) (map-set f ys k x)

-- ---- a worker's queues

pub over_is : (q : Receiving) → q.final ≡ true → q.avail ≡ length q.taken → is_over q ≡ true
over_is q f e = rw f (let same : (length q.taken == q.avail) ≡ true = grind (arith, e) in same)

-- a queue of which all is taken is over
pub over_of : (q : Receiving) → HasTakenAll q → is_over q ≡ true
over_of q t = over_is q t.final t.all

both_true : (a b : Bool) → a ≡ true → b ≡ true → (a && b) ≡ true
both_true a b e f = rw (e, f) refl

names_inj : (a b c d e f : ℕ) → Names a b c ≡ Names d e f → (a ≡ d) × (b ≡ e) × (c ≡ f)
names_inj a b c d e f h = (cc, cc, cc)

-- a worker that sends no more rows, by its last notice
pub hears_end : (old new : LeaderEnds) (next : Next) → whole_of new.tuples.end.taken ≡ whole_of old.tuples.end.taken → is_over new.tuples.end ≡ true → HearsEnd new.errors.end next → Hears old new next
hears_end old new (Row row) e o h = absurd h
hears_end old new Over e o h = record { gives = (ap (map row_of) e, both_true (is_over new.tuples.end) (is_over new.errors.end) o h); names = λ row cause item f. cc }
hears_end old new (Names r c i) e o h = record {
  gives = tt;
  names = λ row cause item f.
      let same = names_inj r c i row cause item f in
      subst (λ x. Any (ReadsRow x cause item) (notices_of new)) same.0 (subst (λ x. Any (ReadsRow r x item) (notices_of new)) same.1 (subst (λ x. Any (ReadsRow r c x) (notices_of new)) same.2 h));
}
hears_end old new Lost e o h = absurd h

named_in : (queues : List LeaderEnds) (k : ℕ) (q : LeaderEnds) (row cause item : ℕ) → k < length queues → Any (ReadsRow row cause item) (notices_of q) → NamedBy (map notices_of (set queues k q)) row cause
named_in queues k q row cause item l a = record {
  item = item;
  named = subst (Any (λ notices. Any (ReadsRow row cause item) notices)) (sym (map-set notices_of queues k q))
      (any-set (λ notices. Any (ReadsRow row cause item) notices) (map notices_of queues) k (notices_of q) (omega (arith, l, length-map queues notices_of)) a);
}

-- ---- all rows of a worker

-- a list with a part behind it, and one more at that part's end
pub behind : (first before after part part' : List ℕ) (row : ℕ) → before ≡ first ++ part → after ≡ before ++ row ∷ [] → part' ≡ part ++ row ∷ [] → after ≡ first ++ part'
behind first before after part part' row e f g =
    f ∙ ap (λ (l : List ℕ). l ++ row ∷ []) e ∙ append_assoc first part (row ∷ []) ∙ ap (λ (l : List ℕ). first ++ l) (sym g)

-- nothing stands behind a list yet
pub behind-none : (first part : List ℕ) → part ≡ [] → first ≡ first ++ part
behind-none first part e = sym (ap (λ (l : List ℕ). first ++ l) e ∙ append-nil first)

-- ---- the rows of worker after worker

-- the workers up to a place are over, and their rows stand behind a list; the others have given none
pub record HeardTo (first list : List ℕ) (queues : List LeaderEnds) (at : ℕ) : Type 0 where
  pub rows : list ≡ first ++ flat_map rows_given (take at queues)
  pub over : All IsOver (take at queues)
  pub unheard : (k : ℕ) (d : LeaderEnds) → at ≤ k → k < length queues → HasGivenNoRow (get_or queues k d)

pub heard-none : (first : List ℕ) (queues : List LeaderEnds) → All HasGivenNoRow queues → HeardTo first first queues 0
heard-none first queues h = record {
  rows = sym (append-nil first);
  over = All-nil IsOver;
  unheard = λ k d from l. All-get_or HasGivenNoRow queues k d l h;
}

pub heard-more : (first list list' : List ℕ) (queues : List LeaderEnds) (at : ℕ) (q : LeaderEnds) → at < length queues → HeardTo first list queues at → list' ≡ list ++ rows_given q → IsOver q
    → HeardTo first list' (set queues at q) (at + 1)
heard-more first list list' queues at q l h e o =
    let cut : take (at + 1) (set queues at q) ≡ take at queues ++ q ∷ [] = take_more_set queues at q l in
    let rows : flat_map rows_given (take at queues ++ q ∷ []) ≡ flat_map rows_given (take at queues) ++ rows_given q =
    flat_map-append rows_given (take at queues) (q ∷ []) ∙ ap (λ (r : List ℕ). flat_map rows_given (take at queues) ++ r) (append-nil (rows_given q)) in
    record {
      rows = e ∙ ap (λ (r : List ℕ). r ++ rows_given q) h.rows ∙ append_assoc first (flat_map rows_given (take at queues)) (rows_given q) ∙ ap (λ (r : List ℕ). first ++ r) (sym (ap (flat_map rows_given) cut ∙ rows));
      over = subst (All IsOver) (sym cut) (All-push IsOver (take at queues) q h.over o);
      unheard = λ k d from m.
          let other : k ≢ at = λ (same : k ≡ at). absurd (omega (arith, from, same)) in
          let long = length-set queues at q in
          subst HasGivenNoRow (sym (get_or-set_other queues at k q d other)) (h.unheard k d (omega (arith, from)) (omega (arith, m, long)));
    }

-- a worker that gave all its rows
pub rows-well : (old new : List ℕ) (q : LeaderEnds) (r : Option MergeAnswer) → is_some r ≡ false → HearsRows old new q r → (new ≡ old ++ rows_given q) × IsOver q
rows-well old new q None e h = h
rows-well old new q (Some why) e h = cc

-- a worker that failed to fails the whole
pub rows-failed : (old new old' new' : List ℕ) (queues : List LeaderEnds) (k : ℕ) (q : LeaderEnds) (r : Option MergeAnswer) → k < length queues → is_some r ≡ true → HearsRows old new q r → HearsAll old' new' (set queues k q) r
rows-failed old new old' new' queues k q None l e h = cc
rows-failed old new old' new' queues k q (Some (merging.Row row cause)) l e h = named_in queues k q row cause h.0 l h.1
rows-failed old new old' new' queues k q (Some merging.Memory) l e h = tt

-- ---- all queues

pub all-trans : (a b c : List LeaderEnds) → AllZip SameQueues a b → AllZip SameQueues b c → AllZip SameQueues a c
all-trans = AllZip-through SameQueues SameQueues SameQueues same-trans
