use Rattle.agg_table.specs.Shown.{use_in}
use Rattle.std.proofs.Common.{◌≡◌, ◌≤◌, ◌++◌, [], ◌∷◌, List, ℕ, Option, None, ◌+◌, suc, length, map, rules, arith, refl, subst, sym, ap, ◌∙◌, is_some, count_by}
use Rattle.std.proofs.lemmas.List.{length-map}
use Rattle.std.proofs.lemmas.List.Elements.{All-weaker}
use Rattle.std.proofs.lemmas.List.Sums.{count_by-le-length}
use Rattle.scan_claim.specs.Shown.{AreSeats, blocks_of, callers_of, draws_of}
use Rattle.scan_claim.specs.declared.claims.ClaimSeat.{ClaimSeat}
use Rattle.parallel_ctx.specs.declared.tokens.Hand.{Hand}
use Rattle.parallel_ctx.specs.Ran.{Ran}
use Rattle.parallel_ctx.specs.Returns.{CanWork, IsReturned, Returns, claim_of, hash_of, there}
use Rattle.parallel_ctx.specs.Accounts.{Heard, heard_of}
use Rattle.parallel_ctx.specs.Tokens.{AreNumbered, AreOneRing, HasCallers, IsFresh, Prepared}
use mathlib.Core.Option.{some}
use lib.ListN.{get_elem?}
use Rattle.agg_table.specs.Calls.{Use}
use Rattle.agg_table.specs.declared.part.HashSeat.{HashSeat}
use Rattle.dshash_parts.specs.Ending.{IsOf, left_of, whole_of}
use Rattle.parallel_ctx.proofs.Passes.{AreHome, HasClosed, IsHome, UsedBy, comes_home, has_closed, ran_areas, ran_none, ran_table, settled_seats, there_few, there_more, used_home}
use Rattle.parallel_ctx.proofs.Settling.{all_claims, all_finished, all_home, can_settle, same_numbers, seats_after, with_uses}
use Rattle.parallel_ctx.proofs.Zips.{AllZip-length}
use Rattle.parallel_ctx.specs.Ready.{HasRoom}
use Rattle.parallel_ctx.proofs.Context.run.Goals as goal

pub serve-backs-requires-clause-ready : goal.serve-backs-requires-clause-ready
serve-backs-requires-clause-ready g c κs within =
    let w = c.self.inside.shared in
    let plan = c.self.inside.plan.value in
    let asks = g.W.Worker.asks c.args.worker.now in
    let can : asks plan (blocks_of w.claims) = subst (λ (p : Prepared). asks p.plan (blocks_of p.shared.claims)) (sym c.self.view_is) c.requires.worker in
    let leads : g.L.Lead.asks c.args.lead.now plan (blocks_of w.claims) = subst (λ (p : Prepared). g.L.Lead.asks c.args.lead.now p.plan (blocks_of p.shared.claims)) (sym c.self.view_is) c.requires.lead in
    let long : length c.self.inside.hands.items ≡ length c.self.inside.receivers.items = AllZip-length AreOneRing c.self.inside.hands.items c.self.inside.receivers.items c.self.invariant.rings in
    let mapped = length-map c.self.inside.hands.items (λ (h : Hand). h.seats.claim) in
    let count : callers_of w.claims ≡ suc (length c.self.inside.receivers.items) = omega (arith, c.self.invariant.seats.0, long, mapped) in
    record {
      fresh = All-weaker (λ (h : Hand). IsFresh plan w h.seats h.ends) (CanWork asks w) (λ h f. (plan, f, can)) c.self.inside.hands.items c.self.invariant.hands;
      flags_each = search rules;
      placed_room = subst (λ (n : ℕ). HasRoom n c.in_ok-placed.field-0.placed) c.len.ensures c.in_ok-placed.ensures.placed;
      backs_room = subst (λ (n : ℕ). HasRoom n c.in_ok-placed.field-0.backs) c.len.ensures c.in_ok-placed.ensures.backs;
      lead = (plan, record { seats = c.self.invariant.leader; unheard = c.self.invariant.receivers; count = count }, leads);
    }

pub settle_all-workers-requires-clause-queues : goal.settle_all-workers-requires-clause-queues
settle_all-workers-requires-clause-queues g c =
    let i = c.self.invariant in
    can_settle (g.W.Worker.did c.args.worker.now) (λ _. None) c.self.inside.shared c.self.inside.plan.value c.self.inside.hands.items c.serve-backs.result.backs.items c.self.inside.receivers.items c.serve-backs.result.queues.items
    i.hands i.receivers c.serve-backs.ensures.workers i.rings c.serve-backs.ensures.queues c.serve-backs.ensures.left

pub settle_all-workers-requires-clause-room : goal.settle_all-workers-requires-clause-room
settle_all-workers-requires-clause-room g c =
    let h = c.self.inside.hands in let b = c.serve-backs.result.backs in
    let e : length h.items ≡ length b.items = AllZip-length (Returns (g.W.Worker.did c.args.worker.now) c.self.inside.shared) h.items b.items c.serve-backs.ensures.workers in
    omega (arith, e, h.ok.0, b.ok.0, c.len.ensures, c.in_ok-placed.ensures.workers.1)

pub settle_all-workers-requires-clause-claims_room : goal.settle_all-workers-requires-clause-claims_room
settle_all-workers-requires-clause-claims_room g c =
    let h = c.self.inside.hands in let b = c.serve-backs.result.backs in
    let e : length h.items ≡ length b.items = AllZip-length (Returns (g.W.Worker.did c.args.worker.now) c.self.inside.shared) h.items b.items c.serve-backs.ensures.workers in
    omega (arith, e, h.ok.0, b.ok.0, c.len.ensures, c.in_ok-placed.ensures.claims.1, c.in_ok-placed.field-0.claims.ok.0, ap (λ (l : List ClaimSeat). length l) c.in_ok-placed.ensures.claims.0, c.push_reserved.ensures.len, c.push_reserved.ensures.capacity)

pub settle_all-workers-requires-clause-hashes_room : goal.settle_all-workers-requires-clause-hashes_room
settle_all-workers-requires-clause-hashes_room g c =
    let h = c.self.inside.hands in let b = c.serve-backs.result.backs in
    let e : length h.items ≡ length b.items = AllZip-length (Returns (g.W.Worker.did c.args.worker.now) c.self.inside.shared) h.items b.items c.serve-backs.ensures.workers in
    omega (arith, e, h.ok.0, b.ok.0, c.len.ensures, c.in_ok-placed.ensures.hashes.1, c.in_ok-placed.field-0.hashes.ok.0, ap (λ (l : List HashSeat). length l) c.in_ok-placed.ensures.hashes.0, c.keep_seat.ensures.few, c.keep_seat.ensures.capacity)

pub close_table-table-requires-clause-seats : goal.close_table-table-requires-clause-seats
close_table-table-requires-clause-seats g c =
    let w = c.self.inside.shared in
    let hs = c.self.inside.hands.items in
    let bs = c.serve-backs.result.backs.items in
    let own = c.serve-backs.result.leader.hash in
    let first = c.self.invariant.seats.1 0 c.self.inside.leader.claim refl in
    let zero : c.self.inside.leader.number ≡ 0 = sym c.self.invariant.leader.number ∙ first.1 in
    let leader_home = subst (λ (i : ℕ). IsHome w.region w.hash i own) zero (comes_home w.region w.hash c.self.inside.leader.number c.self.inside.leader.hash own c.self.invariant.leader.hash c.serve-backs.ensures.seats.hash) in
    let home : AreHome w.region w.hash 0 (own ∷ map hash_of bs) = (leader_home, all_home (g.W.Worker.did c.args.worker.now) w c.self.inside.plan.value 1 hs bs c.self.invariant.hands c.serve-backs.ensures.workers c.self.invariant.numbers) in
    let e : length hs ≡ length bs = AllZip-length (Returns (g.W.Worker.did c.args.worker.now) w) hs bs c.serve-backs.ensures.workers in
    let m = length-map bs hash_of in
    let callers : HasCallers (length (own ∷ map hash_of bs)) w.hash = subst (λ (n : ℕ). HasCallers n w.hash) (let z : suc (length hs) ≡ suc (length (map hash_of bs)) = omega (arith, e, m) in z) c.self.invariant.hash in
    let are : c.settle_all-workers.result.hashes.items ≡ there (own ∷ map hash_of bs) =
    c.settle_all-workers.ensures.hashes
    ∙ ap (λ (l : List HashSeat). l ++ there (map hash_of bs)) (c.keep_seat.ensures.kept ∙ ap (λ (l : List HashSeat). l ++ there (own ∷ [])) c.in_ok-placed.ensures.hashes.0)
    ∙ sym (there_more (own ∷ []) (map hash_of bs)) in
    settled_seats w.region w.hash c.self.inside.leader.number c.self.inside.leader.hash c.self.invariant.leader.hash (own ∷ map hash_of bs) home callers c.settle_all-workers.result.hashes.items are

pub close_table-table-requires-clause-tables : goal.close_table-table-requires-clause-tables
close_table-table-requires-clause-tables g c =
    let h = c.self.inside.hands in let b = c.serve-backs.result.backs in let r = c.settle_all-workers.result.hashes in
    let own = c.serve-backs.result.leader.hash in
    let os = own ∷ map hash_of b.items in
    let e : length h.items ≡ length b.items = AllZip-length (Returns (g.W.Worker.did c.args.worker.now) c.self.inside.shared) h.items b.items c.serve-backs.ensures.workers in
    let m = length-map b.items hash_of in
    let few = there_few os in
    let are : r.items ≡ there os =
    c.settle_all-workers.ensures.hashes
    ∙ ap (λ (l : List HashSeat). l ++ there (map hash_of b.items)) (c.keep_seat.ensures.kept ∙ ap (λ (l : List HashSeat). l ++ there (own ∷ [])) c.in_ok-placed.ensures.hashes.0)
    ∙ sym (there_more (own ∷ []) (map hash_of b.items)) in
    let long = ap (λ (l : List HashSeat). length l) are in
    (c.in_ok-placed.ensures.tables.0, omega (arith, e, m, few, long, h.ok.0, b.ok.0, r.ok.0, c.len.ensures, c.in_ok-placed.ensures.tables.1))

pub close_table-table-requires-clause-areas : goal.close_table-table-requires-clause-areas
close_table-table-requires-clause-areas g c =
    let h = c.self.inside.hands in let b = c.serve-backs.result.backs in let r = c.settle_all-workers.result.hashes in
    let own = c.serve-backs.result.leader.hash in
    let os = own ∷ map hash_of b.items in
    let e : length h.items ≡ length b.items = AllZip-length (Returns (g.W.Worker.did c.args.worker.now) c.self.inside.shared) h.items b.items c.serve-backs.ensures.workers in
    let m = length-map b.items hash_of in
    let few = there_few os in
    let are : r.items ≡ there os =
    c.settle_all-workers.ensures.hashes
    ∙ ap (λ (l : List HashSeat). l ++ there (map hash_of b.items)) (c.keep_seat.ensures.kept ∙ ap (λ (l : List HashSeat). l ++ there (own ∷ [])) c.in_ok-placed.ensures.hashes.0)
    ∙ sym (there_more (own ∷ []) (map hash_of b.items)) in
    let long = ap (λ (l : List HashSeat). length l) are in
    (c.in_ok-placed.ensures.areas.0, omega (arith, e, m, few, long, h.ok.0, b.ok.0, r.ok.0, c.len.ensures, c.in_ok-placed.ensures.areas.1))

pub overflow_cast-launched : goal.overflow_cast-launched
overflow_cast-launched g c =
    let h = c.self.inside.hands.items in let b = c.serve-backs.result.backs.items in let w = c.settle_all-workers.result.workers.items in
    let e : length h ≡ length b = AllZip-length (Returns (g.W.Worker.did c.args.worker.now) c.self.inside.shared) h b c.serve-backs.ensures.workers in
    let f : length b ≡ length w = AllZip-length IsReturned b w c.settle_all-workers.ensures.workers in
    let most : length h ≤ 64 = c.self.invariant.few in
    let counted = count_by-le-length (λ r. is_some r.end) w in
    let same = c.count_ends-launched.ensures in
    let read = c.deref-2.ensures.value in
    let small : c.count_ends-launched.result ≤ 64 = rw (same, read) (omega (arith, e, f, most, counted)) in
    search rules

pub close-drawn-requires : goal.close-drawn-requires
close-drawn-requires g c =
    let w = c.self.inside.shared in
    let hs = c.self.inside.hands.items in
    let bs = c.serve-backs.result.backs.items in
    let one = c.serve-backs.result.leader.claim in
    let s = c.serve-backs.ensures.seats in
    let all : c.settle_all-workers.result.claims.items ≡ one ∷ map claim_of bs =
    c.settle_all-workers.ensures.claims ∙ ap (λ (l : List ClaimSeat). l ++ map claim_of bs) (c.push_reserved.ensures.items ∙ ap (λ (l : List ClaimSeat). l ++ one ∷ []) c.in_ok-placed.ensures.claims.0) in
    subst (AreSeats w.claims) (sym all)
    (seats_after w.claims (c.self.inside.leader.claim ∷ map (λ (h : Hand). h.seats.claim) hs) (one ∷ map claim_of bs) c.self.invariant.seats
    ((s.claim, s.same), all_claims (g.W.Worker.did c.args.worker.now) (λ _. None) w c.self.inside.plan.value hs bs c.serve-backs.ensures.workers))

pub returns-clause-ran : goal.returns-clause-ran
returns-clause-ran g c =
    let w = c.self.inside.shared in
    let plan = c.self.inside.plan.value in
    let did = g.W.Worker.did c.args.worker.now in
    let led = g.L.Lead.led c.args.lead.now in
    let hs = c.self.inside.hands.items in
    let bs = c.serve-backs.result.backs.items in
    let ws = c.settle_all-workers.result.workers.items in
    let one = c.serve-backs.result.leader.claim in
    let all : c.settle_all-workers.result.claims.items ≡ one ∷ map claim_of bs =
    c.settle_all-workers.ensures.claims ∙ ap (λ (l : List ClaimSeat). l ++ map claim_of bs) (c.push_reserved.ensures.items ∙ ap (λ (l : List ClaimSeat). l ++ one ∷ []) c.in_ok-placed.ensures.claims.0) in
    let own = c.serve-backs.result.leader.hash in
    let os = own ∷ map hash_of bs in
    let first = c.self.invariant.seats.1 0 c.self.inside.leader.claim refl in
    let zero : c.self.inside.leader.number ≡ 0 = sym c.self.invariant.leader.number ∙ first.1 in
    let leader_home = subst (λ (i : ℕ). IsHome w.region w.hash i own) zero (comes_home w.region w.hash c.self.inside.leader.number c.self.inside.leader.hash own c.self.invariant.leader.hash c.serve-backs.ensures.seats.hash) in
    let home : AreHome w.region w.hash 0 os = (leader_home, all_home did w plan 1 hs bs c.self.invariant.hands c.serve-backs.ensures.workers c.self.invariant.numbers) in
    let e : length hs ≡ length bs = AllZip-length (Returns did w) hs bs c.serve-backs.ensures.workers in
    let m = length-map bs hash_of in
    let as_many : length os ≡ suc (length hs) = omega (arith, e, m) in
    let are : c.settle_all-workers.result.hashes.items ≡ there os =
    c.settle_all-workers.ensures.hashes
    ∙ ap (λ (l : List HashSeat). l ++ there (map hash_of bs)) (c.keep_seat.ensures.kept ∙ ap (λ (l : List HashSeat). l ++ there (own ∷ [])) c.in_ok-placed.ensures.hashes.0)
    ∙ sym (there_more (own ∷ []) (map hash_of bs)) in
    let t = c.close_table-table.ensures in
    let table = c.close_table-table.result.0 in
    let areas = c.close_table-table.result.1.items in
    let areas_are : areas ≡ map (λ (x : HashSeat). x.area) (there os) = t.areas ∙ ap (map (λ (x : HashSeat). x.area)) are in
    let closed = subst (HasClosed w.region (λ c. whole_of c) w.hash table) are (has_closed w.region (λ c. whole_of c) (λ c. left_of c) (λ r p c. IsOf r p.table c) w.hash table c.settle_all-workers.result.hashes.items t.none t.closed) in
    let uses : (k : ℕ) (o : Option HashSeat) → get_elem? os k ≡ some o → UsedBy w.region (λ c. whole_of c) table areas k ≡ use_in o = used_home w.region (λ c. whole_of c) w.hash table areas os home closed areas_are in
    let numbered = subst (AreNumbered 1) (sym (same_numbers did w hs bs ws c.serve-backs.ensures.workers c.settle_all-workers.ensures.workers)) c.self.invariant.numbers in
    let returned = with_uses (UsedBy w.region (λ c. whole_of c) table areas) 1 bs ws c.settle_all-workers.ensures.workers numbered (λ k o h. ap (UsedBy w.region (λ c. whole_of c) table areas) (let s : 1 + k ≡ suc k = omega arith in s) ∙ uses (suc k) o h) in
    subst (λ (p : Prepared). Ran did led p (record { launched = c.count_ends-launched.result; workers = c.settle_all-workers.result.workers; drawn = c.close-drawn.result; region = c.self.inside.shared.region; table = table; areas = c.close_table-table.result.1 }) c.serve-backs.new.lead) c.self.view_is
    (record {
      region = refl;
      own = draws_of one;
      draws = map draws_of (map claim_of bs);
      lists = c.close-drawn.ensures.lists ∙ ap (map draws_of) all;
      drawn = c.close-drawn.ensures.drawn;
      workers = all_finished did (UsedBy w.region (λ c. whole_of c) table areas) w plan hs bs ws c.self.invariant.hands c.serve-backs.ensures.workers returned;
      led = subst (λ (u : Option Use). led plan (blocks_of w.claims) (draws_of one) u (map heard_of ws) c.serve-backs.new.lead) (sym (uses 0 own refl))
          (subst (λ (h : List Heard). led plan (blocks_of w.claims) (draws_of one) (use_in own) h c.serve-backs.new.lead) (sym c.settle_all-workers.ensures.heard) (c.serve-backs.ensures.led plan c.self.invariant.leader.plan_is));
      numbers = numbered;
      asked = sym (AllZip-length (Returns did w) hs bs c.serve-backs.ensures.workers ∙ AllZip-length IsReturned bs ws c.settle_all-workers.ensures.workers);
      launched = c.count_ends-launched.ensures ∙ ap (count_by (λ r. is_some r.end)) c.deref-2.ensures.value;
      table = λ part is. ran_table w.region (λ c. whole_of c) (λ c. left_of c) (λ r p c. IsOf r p.table c) part c.self.inside.leader.number c.self.inside.leader.hash (suc (length hs)) table c.settle_all-workers.result.hashes.items w.hash is c.self.invariant.leader.hash c.self.invariant.hash t.closed;
      no_table = λ none. (t.none none, ran_none w.region w.hash os home areas areas_are none);
      areas = λ part is. ran_areas w.region part os (suc (length hs)) c.self.inside.leader.number c.self.inside.leader.hash w.hash is home as_many c.self.invariant.leader.hash c.self.invariant.hash areas areas_are;
    })
