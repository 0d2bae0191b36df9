use Rattle.std.proofs.Common.{◌≡◌, ◌<◌, ◌≤◌, ◌+◌, ◌^◌, ◌++◌, ◌∙◌, ℕ, List, None, Some, append_assoc, arith, length, subst, sym}
use Rattle.std.specs.List.{flat_map}
use Rattle.state_file.specs.Number.{number_bytes}
use Rattle.state_head.specs.Cover.{IsCover, cover_bytes, stretch_bytes}
use Rattle.state_head.specs.declared.cover.Stretch.{Stretch}
use Rattle.state_head.proofs.Covers.{IsCoverTo, no_stretch, stretch_all, stretch_more, stretch_none}
use Rattle.state_head.proofs.Texts.{two_read, two_written}
use Rattle.state_head.proofs.list.read_cover.Goals as goal

cover_written : (bytes rest : List ℕ) (cover : List Stretch) → bytes ≡ cover_bytes cover ++ rest → bytes ≡ number_bytes (length cover) ++ (flat_map stretch_bytes cover ++ rest)
unfolding cover_bytes
cover_written bytes rest cover e = two_written bytes (number_bytes (length cover)) (flat_map stretch_bytes cover) rest e

cover_read : (bytes after rest : List ℕ) (count : ℕ) (cover : List Stretch) → bytes ≡ number_bytes count ++ after → count ≡ length cover → after ≡ flat_map stretch_bytes cover ++ rest → bytes ≡ cover_bytes cover ++ rest
unfolding cover_bytes
cover_read bytes after rest count cover e same f =
    two_read bytes (number_bytes (length cover)) after (flat_map stretch_bytes cover) rest (subst (λ (n : ℕ). bytes ≡ number_bytes n ++ after) same e) f

few : (cover : List Stretch) → length cover < 2 ^ 32 → length cover ≤ 4294967295
few cover h = omega (arith, h)

less : (n : ℕ) → n ≤ 4294967295 → n < 2 ^ 32
less n h = omega (arith, h)

pub returns-in_default-clause-written : goal.returns-in_default-clause-written
returns-in_default-clause-written c = λ cover rest is e. absurd (c.in_default.ensures.written (length cover) (flat_map stretch_bytes cover ++ rest) (few cover is.few) (cover_written c.args.bytes.now rest cover e))

pub loop-init : goal.loop-init
loop-init c =
    subst (λ (ss : List Stretch). IsCoverTo c.args.sources c.in-Some.count c.in-Some.after.now ss None c.in-Some.after.now 0) (sym c.new-cover.ensures.items) (no_stretch c.args.sources c.in-Some.count c.in-Some.after.now)

pub returns-in_default-read_next-clause-written : goal.returns-in_default-read_next-clause-written
returns-in_default-read_next-clause-written c = λ cover rest is e.
    let a = c.in-Some.ensures.written (length cover) (flat_map stretch_bytes cover ++ rest) (few cover is.few) (cover_written c.args.bytes.now rest cover e) in
    absurd (stretch_none c.args.sources c.in-Some.count c.in-Some.after.now c.loop.cover.items c.loop.before c.loop.rest.now c.loop.counter c.loop-test.true c.loop.invariant c.in_default-read_next.ensures.written
    cover rest (is.stretches, sym a.0) a.1)

pub loop-preserved : goal.loop-preserved
loop-preserved c =
    let next = c.in-Some-read_next.ensures in
    subst (λ (ss : List Stretch). IsCoverTo c.args.sources c.in-Some.count c.in-Some.after.now ss (Some c.in-Some-read_next.stretch.place) c.in-Some-read_next.more.now (c.loop.counter + 1)) (sym c.in_ok-push.ensures.items)
    (stretch_more c.args.sources c.in-Some.count c.in-Some.after.now c.loop.cover.items c.loop.before c.loop.rest.now c.loop.counter c.in-Some-read_next.stretch c.in-Some-read_next.more.now c.loop-test.true c.loop.invariant
    next.read.0 next.read.1 next.written)

pub returns-clause-read : goal.returns-clause-read
returns-clause-read c =
    let is = c.loop.invariant in
    let end : c.loop.counter ≡ c.in-Some.count = omega arith in
    let many = is.many in
    let same : c.in-Some.count ≡ length c.loop.cover.items = omega (arith, end, many) in
    let most = c.in-Some.ensures.read.1 in (
      cover_read c.args.bytes.now c.in-Some.after.now c.loop.rest.now c.in-Some.count c.loop.cover.items c.in-Some.ensures.read.0 same is.so_far.read,
      record { stretches = is.so_far.are; few = less (length c.loop.cover.items) (subst (λ (n : ℕ). n ≤ 4294967295) same most) },
    )

pub returns-clause-written : goal.returns-clause-written
returns-clause-written c = λ cover rest is e.
    let a = c.in-Some.ensures.written (length cover) (flat_map stretch_bytes cover ++ rest) (few cover is.few) (cover_written c.args.bytes.now rest cover e) in
    let end : c.loop.counter ≡ c.in-Some.count = omega arith in
    stretch_all c.args.sources c.in-Some.count c.in-Some.after.now c.loop.cover.items c.loop.before c.loop.rest.now c.loop.counter end c.loop.invariant cover rest (is.stretches, sym a.0) a.1
