use Rattle.std.proofs.Common.{ℕ, ◌-◌, map, arith}
use Rattle.lock_book.proofs.Uses.{at_map}
use Rattle.size_classes.specs.Classes.{first_class}
use Rattle.dsa_area.specs.declared.area.AreaPass.{AreaPass}
use Rattle.dsa_area.proofs.Steps.{pages_there, pool_there}
use Rattle.dsa_area.proofs.area.Area.close.Goals as goal

pub returns : goal.returns
returns c =
    let area = c.requires.area.1 in
    let u = c.close_joined.ensures.ended (map (λ (q : AreaPass). q.pages) c.args.passes.items) c.join_passes-page_passes.ensures.pages in
    let v = c.close_joined-2.ensures.ended (map (λ (q : AreaPass). q.pools) c.args.passes.items) c.join_passes-page_passes.ensures.pools in
    let page_at = (λ (n : ℕ) (p : AreaPass) (e : _). at_map (λ (q : AreaPass). q.pages) c.args.passes.items n p e) in
    let pool_at = (λ (n : ℕ) (p : AreaPass) (e : _). at_map (λ (q : AreaPass). q.pools) c.args.passes.items n p e) in
    record {
      ended = record {
        pages = record {
          lawful = u.lawful 0 _ (pages_there c.requires.area.0 c.args.self area);
          begins = λ n p e. u.begins n 0 p.pages (page_at n p e);
          own = λ n p e. u.mine n 0 p.pages (page_at n p e);
          no_others = λ n h. u.no_others 0 n h;
        };
        pools = λ class is. record {
          lawful = v.lawful (class - first_class) _ (pool_there c.requires.area.0 c.args.self class (class - first_class) area is (let l = is.low in omega arith));
          begins = λ n p e. v.begins n (class - first_class) p.pools (pool_at n p e);
          own = λ n p e. v.mine n (class - first_class) p.pools (pool_at n p e);
          no_others = λ n h. v.no_others (class - first_class) n (let e = area.callers in omega arith);
        };
      };
    }
