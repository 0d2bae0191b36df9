use Rattle.std.proofs.Common.{◌≡◌, ◌<◌, ◌≤◌, ◌∙◌, ℕ, arith, sym}
use Rattle.std.specs.List.{count_by}
use Rattle.std.specs.Prelude.{◌==◌}
use Rattle.plan_spec.proofs.Nulls.{so-many, taken, too-many}
use Rattle.plan_spec.proofs.grammar.nulls.Goals as goal

pub returns-then-count_commas-gt7 : goal.returns-then-count_commas-gt7
returns-then-count_commas-gt7 c =
    let is : c.count_commas.result ≡ count_by (λ (byte : ℕ). byte == 44) c.args.text.now = rw c.as_bytes-bytes.ensures.value at c.count_commas.ensures in
    let many : 7 < c.count_commas.result = omega arith in
    sym (too-many c.args.text.now c.count_commas.result is many)

pub returns : goal.returns
returns c =
    let is : c.count_commas.result ≡ count_by (λ (byte : ℕ). byte == 44) c.args.text.now = rw c.as_bytes-bytes.ensures.value at c.count_commas.ensures in
    let few : c.count_commas.result ≤ 7 = omega arith in
    let fits = rw c.as_bytes-bytes.ensures.value at c.of.ensures.fits in
    let same = rw c.as_bytes-bytes.ensures.value at c.of.ensures.text in
    taken c.args.text.now c.of.result fits same ∙ sym (so-many c.args.text.now c.count_commas.result is few)
