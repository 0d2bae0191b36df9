-- What looks at the queues come to.
use Rattle.std.proofs.Common.{◌≡◌, ◌<◌, ◌++◌, ◌⊎◌, ◌==◌, inl, inr, ℕ, zero, suc, true, false, List, [], ◌∷◌, Ok, Err, MatchResult, Result, OnOk, Option, Some, None, IsTrue, length, set, get_or, map, All, Any, refl, ap, sym, subst, ◌∙◌, arith, append-nil, append_assoc}
use Rattle.std.specs.List.{AllZip}
use Rattle.std.specs.Result.{is_err}
use Rattle.std.proofs.lemmas.List.Sums.{fold-append}
use Rattle.agg_table.specs.Calls.{Use}
use Rattle.mq_handle.specs.Messages.{whole_of}
use Rattle.par_model.specs.Plan.{Plan}
use Rattle.par_model.specs.declared.state.AggState.{AggState}
use Rattle.partial_agg.specs.Groups.{GroupsByKey, added}
use Rattle.ring_rule.specs.Ring.{Receiving}
use Rattle.gather_law.specs.Tuples.{Group}
use Rattle.row_blocks.specs.Blocks.{Table}
use Rattle.row_blocks.proofs.Permute.{AllZip-join}
use Rattle.parallel_ctx.specs.Accounts.{Heard, heard, is_over}
use Rattle.parallel_ctx.specs.Tokens.{SameQueues}
use Rattle.parallel_ctx.specs.declared.tokens.LeaderEnds.{LeaderEnds}
use Rattle.gather_run.specs.Leading.{IsKeeping, IsLeading, Led}
use Rattle.gather_run.specs.Looks.{Hears, HearsEnd, HearsOut, IsOverQueue, NamedBy, StaysLeading, Takes, tuples_of}
use Rattle.gather_run.specs.declared.messages.Hearing.{Hearing}
use Rattle.gather_run.specs.declared.messages.Hearing.TheVariants as hearing
use Rattle.gather_run.specs.BlockSteps.{BlockStep, Steps}
use Rattle.gather_law.specs.Parts.{with_all}
use Rattle.gather_run.specs.Reading.{ReadsAs}
use Rattle.worker_run.specs.Notices.{HasTakenAll, ReadsRow}
use Rattle.std.proofs.lemmas.List.Elements.{All-map, All-weaker}
use Rattle.scan_claim.specs.Drawing.{is_spent}
use Rattle.scan_claim.specs.Shown.{callers_of}
use Rattle.scan_claim.specs.declared.claims.Claims.{Claims}
use Rattle.parallel_ctx.proofs.Queues.{same-trans}
use Rattle.parallel_ctx.proofs.Zips.{AllZip-through}
use Rattle.gather_run.specs.declared.GatherAnswer.{GatherAnswer}
use Rattle.gather_run.specs.declared.GatherAnswer.TheVariants.{Row, Memory}
use Rattle.gather_run.specs.declared.leading.Step.{Step}
use Rattle.gather_run.specs.declared.leading.Step.TheVariants.{Failed, Next, NoMore}
use Rattle.row_blocks.proofs.Elements.{any_cases, any_head, any_none, any_tail}
use Rattle.gather_run.proofs.Parts.{leading-hear}

pub takes_none : (old new : Receiving) (before now : GroupsByKey) → whole_of new.taken ≡ whole_of old.taken → now ≡ before → Takes old new before now
takes_none old new before now e f = record { messages = []; groups = []; taken = e ∙ sym (append-nil (whole_of old.taken)); read = tt; added_are = f }

pub takes_one : (old new : Receiving) (before now : GroupsByKey) (m : List ℕ) (g : Group) → whole_of new.taken ≡ whole_of old.taken ++ m ∷ [] → ReadsAs m g → now ≡ added before g.0 g.1 → Takes old new before now
takes_one old new before now m g e r f = record { messages = m ∷ []; groups = g ∷ []; taken = e; read = (r, tt); added_are = f }

pub takes_more : (a b c : Receiving) (l m n : GroupsByKey) → Takes a b l m → Takes b c m n → Takes a c l n
takes_more a b c l m n s t = record {
  messages = s.messages ++ t.messages;
  groups = s.groups ++ t.groups;
  taken = t.taken ∙ ap (λ ms. ms ++ t.messages) s.taken ∙ append_assoc (whole_of a.taken) s.messages t.messages;
  read = AllZip-join ReadsAs s.messages t.messages s.groups t.groups s.read t.read;
  added_are = t.added_are ∙ ap (λ (k : GroupsByKey). with_all k t.groups) s.added_are ∙ sym (fold-append (λ (so_far : GroupsByKey) (group : Group). added so_far group.0 group.1) l s.groups t.groups);
}

pub over_is : (q : Receiving) → q.final ≡ true → q.avail ≡ length q.taken → is_over q ≡ true
over_is q f e = rw f (let same : (length q.taken == q.avail) ≡ true = grind (arith, e) in same)

-- a queue of which all is taken is over
pub over_of : (q : Receiving) → HasTakenAll q → is_over q ≡ true
over_of q t = over_is q t.final t.all

-- a worker that sends no more tuples, by its last notice
pub hears_end : (old new : LeaderEnds) (before now : GroupsByKey) (h : Hearing) → Takes old.tuples.end new.tuples.end before now → is_over new.tuples.end ≡ true → HearsEnd new.errors.end h → Hears old new before now h
hears_end old new before now hearing.Ended t o e = (t, record { tuples = o; errors = e })
hears_end old new before now (hearing.Names row cause item) t o e = e
hears_end old new before now (hearing.More took) t o e = absurd e
hears_end old new before now hearing.NoRoom t o e = absurd e

-- what was decoded is the group of a tuple
pub read_is : {A E : Type 0} (r : Result A E) (a : A) (now : A → List ℕ) (new : AggState) (key : List ℕ) (state : AggState) → r ≡ Ok a → MatchResult r (λ found. (now found ≡ key) × (new ≡ state)) (λ why. ⊥)
    → Path (List ℕ × AggState) (now a, new) (key, state)
read_is (Ok b) a now new key state e h =
    let same : a ≡ b = cc in
    λ i. ((ap now same ∙ h.0) i, h.1 i)
read_is (Err why) a now new key state e h = absurd h

pub on_ok : {A E : Type 0} (r : Result A E) (P : Type 0) → is_err r ≡ false → OnOk r P → P
on_ok (Ok a) P e h = h
on_ok (Err x) P e h = cc

-- ---- all workers

map-set : {A B : Type 0} (f : A → B) (xs : List A) (k : ℕ) (x : A) → map f (set xs k x) ≡ set (map f xs) k (f x)
map-set f [] k x = refl
map-set f (y ∷ ys) zero x = refl
map-set f (y ∷ ys) (suc k) x = ap (λ l. f y ∷ l) (map-set f ys k x)

map-at : {A B : Type 0} (f : A → B) (xs : List A) (k : ℕ) (d : A) (e : B) → k < length xs → get_or (map f xs) k e ≡ f (get_or xs k d)
map-at f [] k d e h = absurd (omega arith)
map-at f (y ∷ ys) zero d e h = refl
map-at f (y ∷ ys) (suc k) d e h = map-at f ys k d e (omega arith)

map-long : {A B : Type 0} (f : A → B) (xs : List A) → length (map f xs) ≡ length xs
map-long f [] = refl
map-long f (x ∷ xs) = ap suc (map-long f xs)

pub leading_after : (queues : List LeaderEnds) (k : ℕ) (d q : LeaderEnds) (before now : GroupsByKey) → k < length queues → Takes (get_or queues k d).tuples.end q.tuples.end before now
    → (plan : Plan) (records : Table) (draws : List ℕ) (used : Option Use) → IsLeading plan records draws used (map tuples_of queues) before → IsLeading plan records draws used (map tuples_of (set queues k q)) now
leading_after queues k d q before now h t plan records draws used l =
    let place : k < length (map tuples_of queues) = omega (arith, map-long tuples_of queues, h) in
    let were = map-at tuples_of queues k d [] h in
    let are : map tuples_of (set queues k q) ≡ set (map tuples_of queues) k (get_or (map tuples_of queues) k [] ++ t.messages) =
    map-set tuples_of queues k q ∙ ap (λ ms. set (map tuples_of queues) k ms) (t.taken ∙ ap (λ ms. ms ++ t.messages) (sym were)) in
    subst (λ ts. IsLeading plan records draws used ts now) (sym are) (leading-hear plan records draws used (map tuples_of queues) k t.messages t.groups before now l place t.read t.added_are)

pub all-trans : (a b c : List LeaderEnds) → AllZip SameQueues a b → AllZip SameQueues b c → AllZip SameQueues a c
all-trans = AllZip-through SameQueues SameQueues SameQueues same-trans

-- ---- the leader's answer

tuples_heard : (queues : List LeaderEnds) → map tuples_of queues ≡ map (λ (h : Heard). h.tuples) (map heard queues)
tuples_heard [] = refl
tuples_heard (q ∷ queues) = ap (λ l. tuples_of q ∷ l) (tuples_heard queues)

any_heard : (row cause item : ℕ) (queues : List LeaderEnds) → Any (λ (q : LeaderEnds). Any (ReadsRow row cause item) (whole_of q.errors.end.taken)) queues → Any (λ (h : Heard). Any (ReadsRow row cause item) h.errors) (map heard queues)
any_heard row cause item [] a = absurd (any_none (λ (q : LeaderEnds). Any (ReadsRow row cause item) (whole_of q.errors.end.taken)) a)
any_heard row cause item (q ∷ queues) a = by (any_cases (λ (q : LeaderEnds). Any (ReadsRow row cause item) (whole_of q.errors.end.taken)) q queues a) (any_heard row cause item queues)
  where
    by : Any (ReadsRow row cause item) (whole_of q.errors.end.taken) ⊎ NamedBy queues row cause item
        → (NamedBy queues row cause item → Any (λ (h : Heard). Any (ReadsRow row cause item) h.errors) (map heard queues)) → Any (λ (h : Heard). Any (ReadsRow row cause item) h.errors) (map heard (q ∷ queues))
    by (inl a) rest = any_head (λ (h : Heard). Any (ReadsRow row cause item) h.errors) (heard q) (map heard queues) a
    by (inr a) rest = any_tail (λ (h : Heard). Any (ReadsRow row cause item) h.errors) (heard q) (map heard queues) (rest a)

over_heard : (queues : List LeaderEnds) → All IsOverQueue queues → All (λ (h : Heard). h.tuples_over ≡ true) (map heard queues)
over_heard queues h = All-map (λ (h : Heard). h.tuples_over ≡ true) heard queues (All-weaker IsOverQueue (λ (q : LeaderEnds). (heard q).tuples_over ≡ true) (λ q o. o.tuples) queues h)

notices_heard : (queues : List LeaderEnds) → All IsOverQueue queues → All (λ (h : Heard). h.errors_over ≡ true) (map heard queues)
notices_heard queues h = All-map (λ (h : Heard). h.errors_over ≡ true) heard queues (All-weaker IsOverQueue (λ (q : LeaderEnds). (heard q).errors_over ≡ true) (λ q o. o.errors) queues h)

pub led_out : (plan : Plan) (records : Table) (blocks : ℕ) (draws : List ℕ) (used : Option Use) (old new : List LeaderEnds) (before now : GroupsByKey) (r : Option GatherAnswer)
    → IsLeading plan records draws used (map tuples_of old) before → IsTrue (is_spent blocks draws) → HearsOut old new before now r → Led plan records blocks draws used (map heard new) now r
led_out plan records blocks draws used old new before now None l s h =
    record { leading = subst (λ ts. IsLeading plan records draws used ts now) (tuples_heard new) (h.0 plan records draws used l); spent = s; over = over_heard new h.1; errors_over = notices_heard new h.1 }
led_out plan records blocks draws used old new before now (Some (Row row cause item)) l s h = inr (any_heard row cause item new h)
led_out plan records blocks draws used old new before now (Some Memory) l s h = tt

-- a leader that has heard nobody is alone
alone_is : (callers : ℕ) (queues : List LeaderEnds) → callers ≡ suc (length queues) → map heard queues ≡ [] → callers ≡ 1
alone_is callers queues e none = let long = ap (λ l. length l) none in omega (arith, e, long, map-long heard queues)

pub led_failed : (plan : Plan) (records : Table) (claims : Claims) (blocks : ℕ) (draws : List ℕ) (used : Option Use) (queues : List LeaderEnds) (kept groups : GroupsByKey) (why : GatherAnswer) → callers_of claims ≡ suc (length queues)
    → Steps plan records claims draws used queues kept groups (Failed why) → Led plan records blocks draws used (map heard queues) groups (Some why)
led_failed plan records claims blocks draws used queues kept groups (Row row cause item) e (inl m) = inl (record { refused = m.refused; first = λ none. m.first (alone_is (callers_of claims) queues e none) })
led_failed plan records claims blocks draws used queues kept groups (Row row cause item) e (inr a) = inr (any_heard row cause item queues a)
led_failed plan records claims blocks draws used queues kept groups Memory e s = tt

-- what is kept stays kept where workers are heard
pub heard_keeping : (plan : Plan) (records : Table) (draws : List ℕ) (used : Option Use) (old new : List LeaderEnds) (kept before now : GroupsByKey) → StaysLeading old new before now
    → IsKeeping plan records draws used (map tuples_of old) kept before → IsKeeping plan records draws used (map tuples_of new) kept now
heard_keeping plan records draws used old new kept before now stays k =
    record { done = k.done; last = k.last; cut = k.cut; leading = stays plan records k.done used k.leading; accepted = k.accepted; kept_is = k.kept_is; none = k.none }

-- what a block did, once all workers were heard
pub step_of : (plan : Plan) (records : Table) (claims : Claims) (draws : List ℕ) (used : Option Use) (queues : List LeaderEnds) (kept groups : GroupsByKey) (step : Step) → BlockStep plan records claims draws used (map tuples_of queues) kept groups step
    → Steps plan records claims draws used queues kept groups step
step_of plan records claims draws used queues kept groups Next s = s
step_of plan records claims draws used queues kept groups NoMore s = s
step_of plan records claims draws used queues kept groups (Failed (Row row cause item)) s = inl s
step_of plan records claims draws used queues kept groups (Failed Memory) s = tt
