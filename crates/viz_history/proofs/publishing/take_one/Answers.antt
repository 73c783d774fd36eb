use Rattle.std.proofs.Common.{◌≡◌, ◌+◌, true, false, refl, sym, ap, ◌∙◌, arith}
use Rattle.viz_cache.specs.Cache.{CacheData}
use Rattle.viz_history.specs.Publishing.{is_stale}
use Rattle.viz_history.proofs.PublishLemmas.{taken_more}
use Rattle.viz_history.proofs.publishing.take_one.Goals as goal

pub returns-in-Ok-clause-takes : goal.returns-in-Ok-clause-takes
returns-in-Ok-clause-takes c = λ before entries t.
    let is : is_stale c.args.stamps.now c.args.item.now ≡ false = sym c.finds_lost.ensures ∙ c.if-finds_lost.false in
    taken_more c.args.stamps.now c.args.cache.now.capacity before entries c.args.cache.now.entries c.args.count c.args.item.now t
    true (c.args.count.kept + 1) c.args.count.unkept c.put.new.self.entries is refl (omega arith) c.in-Ok.ensures.ok

pub returns-in-Err-clause-takes : goal.returns-in-Err-clause-takes
returns-in-Err-clause-takes c = λ before entries t.
    let is : is_stale c.args.stamps.now c.args.item.now ≡ false = sym c.finds_lost.ensures ∙ c.if-finds_lost.false in
    taken_more c.args.stamps.now c.args.cache.now.capacity before entries c.args.cache.now.entries c.args.count c.args.item.now t
    false c.args.count.kept (c.args.count.unkept + 1) c.put.new.self.entries is (omega arith) refl (ap (λ (s : CacheData). s.entries) c.in-Err.ensures.err)
