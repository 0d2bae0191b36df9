use Rattle.std.proofs.Common.{◌≡◌, ℕ, suc, ◌+◌, ◌-◌, ◌*◌, ◌/◌, ◌<◌, ◌≤◌, List, [], ◌∷◌, ◌++◌, length, drop, get_or, sum_by, sym, ap, subst, ◌∙◌, length-append, arith}
use Rattle.std.proofs.lemmas.List.{drop_more}
use Rattle.shm_toc.specs.Table.{Entry, Table, rounded, estimated, place_of, table_of, free_bytes_of}
use Rattle.shm_toc.specs.Requests.{Provides, Serves, empty_table, with_chunk, with_entry}
use Rattle.shm_toc.proofs.Entries.{place_behind}
use Rattle.shm_toc.proofs.Uses.{provides_chunk, provides_entry, never_full, never_refused}
use Rattle.uses_region.proofs.contents.table_of_chunks.Goals as goal

whole : (n : ℕ) → 8 * (rounded n / 8) ≡ rounded n
whole n = omega arith

-- what is provided for after the chunk of the i-th size, and after its entry
after_chunk : (t : Table) (sizes : List ℕ) (i keys : ℕ) → i < length sizes → Provides t (drop i sizes) keys
    → (rounded (get_or sizes i 0) ≤ free_bytes_of t) × Provides (with_chunk t (get_or sizes i 0)) (drop (i + 1) sizes) keys
after_chunk t sizes i keys low h = provides_chunk t (get_or sizes i 0) (drop (i + 1) sizes) keys (subst (λ (l : List ℕ). Provides t l keys) (drop_more sizes i 0 low) h)

after_entry : (t : Table) (sizes : List ℕ) (i : ℕ) (entry : Entry) → i < length sizes → Provides t (drop i sizes) (length sizes - i)
    → (16 ≤ free_bytes_of (with_chunk t (get_or sizes i 0))) × Provides (with_entry (with_chunk t (get_or sizes i 0)) entry) (drop (i + 1) sizes) (length sizes - (i + 1))
after_entry t sizes i entry low h =
    let one_less : length sizes - i ≡ suc (length sizes - (i + 1)) = omega arith in
    provides_entry (with_chunk t (get_or sizes i 0)) entry (drop (i + 1) sizes) (length sizes - (i + 1))
    (subst (λ (k : ℕ). Provides (with_chunk t (get_or sizes i 0)) (drop (i + 1) sizes) k) one_less (after_chunk t sizes i (length sizes - i) low h).1)

pub loop-i-init : goal.loop-i-init
loop-i-init c =
    let sizes = c.args.sizes.now in
    let bytes : 8 * (c.estimate.result / 8) ≡ estimated sizes (length sizes) =
    ap (λ (z : ℕ). 8 * (z / 8)) c.estimate.ensures ∙ whole (32 + 16 * length sizes + sum_by rounded sizes) in
    let empty : table_of c.create-toc.result.words ≡ empty_table c.args.magic (estimated sizes (length sizes)) = c.create-toc.ensures.empty ∙ ap (empty_table c.args.magic) bytes in
    record {
      here = c.create-toc.ensures.here;
      provides = λ requests more p few. subst (λ (u : Table). Serves u requests) (sym empty) (c.serves_in_any_order.ensures c.args.magic sizes more (length sizes) requests p (omega (arith, few)));
      fresh = λ key low. ap (λ (u : Table). place_of u.entries key) empty;
      entries = ap (λ (u : Table). length u.entries) empty;
    }

pub unreachable-requires : goal.unreachable-requires
unreachable-requires c =
    never_full (table_of c.loop-i.toc.words) (rounded (get_or c.args.sizes.now c.loop-i.i 0)) c.in_default.field-0
    (after_chunk (table_of c.loop-i.toc.words) c.args.sizes.now c.loop-i.i (length c.args.sizes.now - c.loop-i.i) c.loop-i-test.true c.loop-i.invariant.provides).0
    c.in_default.ensures.full.0

pub unreachable-requires-in_default-insert : goal.unreachable-requires-in_default-insert
unreachable-requires-in_default-insert c =
    let room = (after_entry (table_of c.loop-i.toc.words) c.args.sizes.now c.loop-i.i (record { key = 0; place = 0 }) c.loop-i-test.true c.loop-i.invariant.provides).0 in
    never_refused (table_of c.allocate.new.self.words) c.loop-i.i c.in_default-insert.field-0
    (ap (λ (u : Table). place_of u.entries c.loop-i.i) c.in-Ok.ensures.taken ∙ c.loop-i.invariant.fresh c.loop-i.i (omega arith))
    (subst (λ (u : Table). 16 ≤ free_bytes_of u) (sym c.in-Ok.ensures.taken) room)
    c.in_default-insert.ensures.refused.0

pub loop-i-preserved : goal.loop-i-preserved
loop-i-preserved c =
    let t = table_of c.loop-i.toc.words in
    let last : Entry = record { key = c.loop-i.i; place = c.in-Ok.chunk.at } in
    let e : table_of c.keep.new.self.words ≡ with_entry (with_chunk t (get_or c.args.sizes.now c.loop-i.i 0)) last =
    c.keep.ensures.same ∙ c.in-Ok-insert.ensures.entered ∙ ap (λ (u : Table). with_entry u last) c.in-Ok.ensures.taken in
    let l = length-append t.entries (last ∷ []) in
    let f : length (table_of c.keep.new.self.words).entries ≡ length (t.entries ++ (last ∷ [])) = ap (λ (u : Table). length u.entries) e in
    let n = c.loop-i.invariant.entries in
    record {
      here = c.keep.ensures.here ∙ c.in-Ok-insert.ensures.here ∙ c.in-Ok.ensures.here ∙ c.loop-i.invariant.here;
      provides = subst (λ (u : Table). Provides u (drop (c.loop-i.i + 1) c.args.sizes.now) (length c.args.sizes.now - (c.loop-i.i + 1))) (sym e)
          (after_entry t c.args.sizes.now c.loop-i.i last c.loop-i-test.true c.loop-i.invariant.provides).1;
      fresh = λ key low. ap (λ (u : Table). place_of u.entries key) e
          ∙ place_behind t.entries last key (c.loop-i.invariant.fresh key (omega (arith, low))) (λ s. omega (arith, low, s));
      entries = omega (arith, l, f, n);
    }
