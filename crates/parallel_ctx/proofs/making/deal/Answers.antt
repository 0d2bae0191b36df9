use Rattle.std.proofs.Common.{ℕ, append-nil, ◌≡◌, ◌∷◌, [], ◌++◌, ◌+◌, List, length, map, vec_items, rules, arith, ap, subst, sym, ◌∙◌}
use Rattle.std.proofs.lemmas.List.Elements.{All-push}
use Rattle.std.specs.List.{All}
use Rattle.std.specs.Vec.Iter.{into_iter_items}
use Rattle.parallel_ctx.specs.declared.tokens.Hand.{Hand}
use Rattle.parallel_ctx.specs.Making.{claim_in, ends_in, firsts, hash_in}
use Rattle.parallel_ctx.specs.Tokens.{AreNumbered, number_in}
use Rattle.parallel_ctx.proofs.Dealing.{numbered-push, still}
use Rattle.parallel_ctx.proofs.making.deal.Goals as goal

pub loop-mine-preserved : goal.loop-mine-preserved
loop-mine-preserved c =
    let was = c.loop-mine.invariant in
    let hs = vec_items c.loop-mine.hands in
    let hand : Hand = record { seats = record { number = c.loop-mine.number; toc = c.share_toc-in-loop-mine.result; claim = c.in-Some-next.claim; hash = c.next_seat-in-loop-mine.result }; ends = c.in-Some-mine.mine } in
    let left = into_iter_items c.loop-mine.mine-iterator in let left' = into_iter_items c.next-in-loop-mine.new.self in
    let rest = into_iter_items c.loop-mine.rest in let rest' = into_iter_items c.next-in-loop-mine-2.new.self in
    let one : left ≡ c.in-Some-mine.mine ∷ left' = search rules in
    let other : rest ≡ c.in-Some-next.claim ∷ rest' = search rules in
    let pushed : vec_items c.push_reserved.new.self ≡ hs ++ hand ∷ [] = c.push_reserved.ensures.items in
    let number : c.loop-mine.number ≡ 1 + length hs = search rules in
    let n = ap (λ l. length l) one in
    let m = ap (λ l. length l) other in
    record {
      room = search rules;
      few = search rules;
      same_count = omega (arith, n, m, was.same_count);
      toc = c.share_toc-in-loop-mine.ensures.same ∙ was.toc;
      tocs =
          subst (All (λ (h : Hand). h.seats.toc ≡ c.args.toc)) (sym pushed)
          (All-push (λ (h : Hand). h.seats.toc ≡ c.args.toc) hs hand was.tocs (c.share_toc-in-loop-mine.ensures.copy ∙ was.toc));
      count = search rules;
      numbers = subst (λ (l : List Hand). AreNumbered 1 (map number_in l)) (sym pushed) (numbered-push 1 hs hand was.numbers number);
      hashes = ap (λ l. c.next_seat.result ∷ l) (still hash_in hs _ hand (firsts (into_iter_items c.loop-mine.hash_rest) (length left)) (firsts (into_iter_items c.next_seat-in-loop-mine.new.rest) (length left')) pushed
          (ap (firsts (into_iter_items c.loop-mine.hash_rest)) (let e : length left ≡ length left' + 1 = omega (arith, n) in e) ∙ c.next_seat-in-loop-mine.ensures (length left'))) ∙ was.hashes;
      claims = ap (λ l. c.in-Some.own ∷ l) (still claim_in hs _ hand rest rest' pushed other) ∙ was.claims;
      ends = still ends_in hs _ hand left left' pushed one ∙ was.ends;
    }

pub returns-clause-hashes : goal.returns-clause-hashes
returns-clause-hashes c =
    let left = into_iter_items c.loop-mine.mine-iterator in
    let none : length left ≡ 0 = search rules in
    let hs = vec_items c.loop-mine.hands in
    ap (λ l. c.next_seat.result ∷ l) (sym (append-nil (map hash_in hs)) ∙ ap (λ (k : ℕ). map hash_in hs ++ firsts (into_iter_items c.loop-mine.hash_rest) k) (sym none)) ∙ c.loop-mine.invariant.hashes
