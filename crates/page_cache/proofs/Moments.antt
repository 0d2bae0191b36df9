-- At no moment there are more entries than the callers' shares.
use Rattle.std.proofs.Common.{◌≡◌, ℕ, zero, suc, ◌+◌, ◌*◌, ◌≤◌, List, [], ◌∷◌, ◌++◌, refl, ap, subst, suc-mul, arith}
use Rattle.std.specs.Cmp.Lexicographic.{slice_cmp}
use Rattle.std.specs.FinMap as fin
use Rattle.lock_book.specs.History.{calls_by}
use Rattle.lock_book.proofs.Uses.{weigh, weigh_below, weigh_parts}
use Rattle.dsa_area.specs.declared.area.Area.{Area}
use Rattle.dshash_chunks.specs.declared.held.Held.{Held}
use Rattle.dshash_parts.specs.States.{fresh}
use Rattle.dshash_parts.specs.Tables.{map_at}
use Rattle.dshash_parts.specs.Traces.{Trace}
use Rattle.page_cache.specs.Moments.{AlwaysPaid, IsMoment, NeverMore, entries_of}
use Rattle.page_cache.specs.Pages.{stepped}
use Rattle.page_cache.specs.Tickets.{CacheEntry, CacheEvent, CacheHistories, CacheSight, HasPaid, counted, makes, nothing, of_turn, sum_below, takes}
use Rattle.page_cache.proofs.Paid.{paid_counts, pays_front}
use Rattle.page_cache.proofs.PartitionSums.{sum_both, sum_same}
use Rattle.page_cache.proofs.Turns.{history_counts}

abbrev made : CacheEntry → ℕ
made e = of_turn makes e.call e.reply

abbrev taken : CacheEntry → ℕ
taken e = of_turn takes e.call e.reply

module _ (a : Area) (callers share : ℕ) (h : CacheHistories) (x : IsMoment a callers share h) where
  -- of the callers below a number
  abbrev made_below : ℕ → ℕ
  made_below n = sum_below 128 (λ i. weigh_below made n (h i))

  abbrev taken_below : ℕ → ℕ
  taken_below n = sum_below 128 (λ i. weigh_below taken n (h i))

  -- they made no more than their shares and what they took out
  few_below : (n : ℕ) → n ≤ callers → made_below n ≤ n * share + taken_below n
  few_below zero low = omega arith
  few_below (suc n) low =
      let p = x.paid n (omega arith) in
      let rest = few_below n (omega arith) in
      let own_made = sum_same 128 (λ i. weigh made (p.0.mine i)) (λ i. weigh made (calls_by n (h i))) (λ i lt. ap (weigh made) (p.3 i lt)) in
      let own_taken = sum_same 128 (λ i. weigh taken (p.0.mine i)) (λ i. weigh taken (calls_by n (h i))) (λ i lt. ap (weigh taken) (p.3 i lt)) in
      let all_made = sum_both 128 (λ i. weigh_below made n (h i)) (λ i. weigh made (calls_by n (h i))) in
      let all_taken = sum_both 128 (λ i. weigh_below taken n (h i)) (λ i. weigh taken (calls_by n (h i))) in
      let paid = paid_counts a n share p.0 p.1 p.2 in
      omega (arith, rest, own_made, own_taken, all_made, all_taken, paid, suc-mul n share)

  -- and all entries are what all callers made, less what they took out
  all_entries : entries_of h + taken_below callers ≡ made_below callers
  all_entries =
      let both = sum_both 128 (λ i. fin.len (map_at h i)) (λ i. weigh taken (h i)) in
      let none = fin.len-empty (slice_cmp Rattle.std.specs.Ordering.nat_cmp) Held in
      let each = sum_same 128 (λ i. weigh made (h i)) (λ i. fin.len (map_at h i) + weigh taken (h i)) (λ i lt. let c = history_counts i fresh (h i) (x.lawful i lt) in omega (arith, c, none)) in
      let all_made = sum_same 128 (λ i. weigh_below made callers (h i)) (λ i. weigh made (h i)) (λ i lt. weigh_parts made callers (h i) (λ n high. x.no_others i n lt high)) in
      let all_taken = sum_same 128 (λ i. weigh_below taken callers (h i)) (λ i. weigh taken (h i)) (λ i lt. weigh_parts taken callers (h i) (λ n high. x.no_others i n lt high)) in
      omega (arith, both, each, all_made, all_taken)

  few_entries : entries_of h ≤ callers * share
  few_entries = let few = few_below callers (omega arith) in let all = all_entries in omega (arith, few, all)

pub never_more : NeverMore
never_more a callers share h x = few_entries a callers share h x

trace_front : (a : Area) (n : ℕ) (v w : CacheSight) (es fs : List CacheEvent) → Trace stepped a n v w (es ++ fs) → (u : CacheSight) × Trace stepped a n v u es
trace_front a n v w [] fs x = (v, refl)
trace_front a n v w (e ∷ es) fs x = let r = trace_front a n x.0 w es fs x.2 in (r.0, (x.0, x.1, r.1))

pub always_paid : AlwaysPaid
always_paid a caller share now tickets x past rest is =
    let t = trace_front a caller (nothing x.start) now past rest (subst (Trace stepped a caller (nothing x.start) now) is x.trace) in
    let p = pays_front share tickets past rest (subst (λ (es : List CacheEvent). Rattle.page_cache.specs.Tickets.Pays share es tickets) is x.pays) in
    (t.0, p.0, record { start = x.start; life = past; trace = t.1; pays = p.1 }, refl)
