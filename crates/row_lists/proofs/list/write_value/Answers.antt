use Rattle.std.proofs.Common.{◌≡◌, ◌++◌, ◌∙◌, ℕ, List, FitsSigned, ap, if◌then◌else◌, of_z, rules, w64}
use Rattle.std.specs.Prelude.{is_ok}
use Rattle.std.proofs.lemmas.Int.{to_z-of_z}
use Rattle.row_lists.specs.Carried.{number_bytes}
use Rattle.row_lists.proofs.Reading.{number_put}
use Rattle.row_lists.proofs.list.write_value.Goals as goal

pub returns-in_ok-push-in-Some-2-clause-bytes : goal.returns-in_ok-push-in-Some-2-clause-bytes
returns-in_ok-push-in-Some-2-clause-bytes c =
    let n = c.in-Some-2.n in
    let r = c.extend_from_slice.result in
    let mid = c.push-in-Some-2.new.self.items in
    let same_n : c.in-Some.n ≡ n = cc in
    let fits : FitsSigned w64 n = search rules in
    let bytes : c.to_le_bytes.result ≡ number_bytes n = c.to_le_bytes.ensures ∙ ap number_bytes (to_z-of_z w64 n fits) in
    number_put r n c.args.last.now c.args.value c.args.bytes.now.items mid c.extend_from_slice.new.self.items c.in-Some-2.is (λ same. c.if-n-last.false (ap (of_z w64) (same_n ∙ same))) c.in_ok-push-in-Some-2.ensures.items
    (c.extend_from_slice.ensures.items ∙ ap (λ (bs : List ℕ). if is_ok r then mid ++ bs else mid) bytes)
