use Rattle.std.proofs.Common.{◌==◌, ◌∙◌, ℕ, Bool, not, subst, true, ◌⊎◌, inl, inr, ◌≡◌, ◌<◌, ◌≤◌, ◌+◌, ◌∷◌, [], Some, append-nil, append_assoc, arith, length, refl, sym, take}
use Rattle.std.proofs.lemmas.Bool.Decides.{nat_tests}
use Rattle.std.proofs.lemmas.List.{take_more}
use Rattle.csv.specs.Records.{cut_from, field_at, fields_of}
use Rattle.csv.proofs.RecordFacts.{cut-length, field-get}
use Rattle.csv_rows.proofs.Groups.{covers-more}
use Rattle.csv_rows.proofs.Stands.{field-stands, placed-first, push-stands}
use Rattle.csv_rows.proofs.piece.push_ends.Goals.{then-i-eq0, else-i-eq0}
use Rattle.csv_rows.proofs.piece.push_ends.Goals as goal

some_bytes : (b : Bool) (n : ℕ) → b ≡ (n == 0) → not b ≡ true → 0 < n
some_bytes b n e f = grind (arith, nat_tests)

pub fields-init : goal.fields-init
fields-init c =
    let first = placed-first c.args.row.now.ends c.args.row.now.bytes in
    record {
      covers = c.requires.covers;
      place = omega (arith, first);
      fields = sym (append-nil (cut_from 0 c.args.ends.now.items c.args.bytes.now));
    }

pub fields-preserved : goal.fields-preserved
fields-preserved c =
    let inv = c.fields.invariant in
    let fields = fields_of c.args.row.now in
    let field = c.in-Some.field.now in
    let i = c.fields.i in
    let at : field_at fields i ≡ Some field = sym c.in-Some.ensures.value in
    let get = field-get fields i field at in
    let lt : i < length fields = subst (λ (n : ℕ). i < n) c.len-i-end.ensures c.fields-test.true in
    let count = cut-length 0 c.args.row.now.ends c.args.row.now.bytes in
    let tied : (i ≡ 0) ⊎ (0 < length field) = elim c.if-i-eq0.branch [ then-i-eq0 w ↦ inl w.if-i-eq0.true | else-i-eq0 w ↦ inr (some_bytes w.is_empty.result (length field) w.is_empty.ensures (sym w.value-is ∙ c.if-not-is_empty.true)) ] in
    let stands = field-stands c.args.row.now.ends c.args.row.now.bytes i field (omega (arith, lt, count)) get tied in
    let more = c.in_ok-push_end-in-Some.ensures in
    let le : c.fields.end ≤ c.fields.end + length field = omega arith in
    let cut = push-stands c.fields.ends.items c.args.bytes.now c.args.row.now.ends c.args.row.now.bytes field c.args.from c.fields.end i inv.covers inv.place c.requires.text stands in
    let place = inv.place in
    let next = stands.next in
    record {
      covers = rw more (covers-more c.fields.ends.items c.fields.end (c.fields.end + length field) inv.covers le);
      place = omega (arith, place, next);
      fields = rw (more, cut, inv.fields, take_more fields i [] lt, get, append_assoc (cut_from 0 c.args.ends.now.items c.args.bytes.now) (take i fields) (field ∷ [])) refl;
    }
