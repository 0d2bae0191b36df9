use Rattle.std.proofs.Common.{◌≡◌, ◌+◌, ◌-◌, ◌∙◌, ap, arith, drop, length, length-drop, min, refl, rules, sym, take}
use Rattle.std.proofs.lemmas.Bool.{le-ltb, lt-ltb}
use Rattle.csv_rows.specs.Places.{place_after}
use Rattle.std.proofs.lemmas.List.{take_rest}
use Rattle.tile_source.proofs.Scans.{pass-count, pass-first, pass-line, pass-place}
use Rattle.tile_source.proofs.cut.Cut.pass.Goals as goal

pub returns : goal.returns
returns c =
    let p = c.args.self.now.place in
    let bytes = c.args.bytes.now in
    let sure = c.sure_of-sure.result in
    let n = c.first_seam-found.result.at in
    let start = c.place_behind-start.result in
    let is : sure ≡ min (c.args.self.now.goal - c.args.self.now.at) (length bytes) = c.sure_of-sure.ensures ∙ ap (λ k. min k (length bytes)) c.saturating_sub.ensures in
    let first = pass-first p start bytes sure n c.place_behind-start.ensures c.first_seam-found.ensures.first in
    let size = length-drop sure bytes in
    record {
      count = sym (pass-count p (c.args.self.now.goal - c.args.self.now.at) bytes sure n is first);
      within = omega (arith, first.within, size, is);
      high = search rules;
      big = search rules;
      at = c.saturating_add-self.ensures;
      goal = refl;
      size = refl;
      ended = λ lt. record { line = pass-line (place_after p (take sure bytes)) bytes sure n first lt; done = lt-ltb (sure + n) (length bytes) lt };
      goes_on = λ all. record {
        on = le-ltb (sure + n) (length bytes) (omega (arith, all));
        place = c.first_seam-found.ensures.place ∙ (ap (λ xs. place_after start (take n xs)) (take_rest bytes sure) ∙ (ap (λ q. place_after q (take n (drop sure bytes))) c.place_behind-start.ensures ∙ pass-place p bytes sure n all));
      };
    }
