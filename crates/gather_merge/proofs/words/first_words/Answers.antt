use Rattle.std.proofs.Common.{◌≡◌, arith, length, rules}
use Rattle.gather_merge.proofs.Loading.{words_all, words_loaded}
use Rattle.gather_merge.specs.Order.{columns_at}
use Rattle.gather_merge.proofs.words.first_words.Goals as goal

pub returns : goal.returns
returns g c =
    let records = c.args.rows.now in
    let columns = columns_at c.args.plan.now records in
    let old = c.in_ok-words.words.items in
    let long : length old ≡ length records = search rules in
    words_all c.args.plan.now records (length records) c.load_all.new.words.items (words_loaded columns (length records) old c.load_all.new.words.items long c.load_all.ensures) (omega arith)
