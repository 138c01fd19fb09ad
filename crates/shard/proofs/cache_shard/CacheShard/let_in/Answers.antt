-- What the key finds decides.
use Rattle.std.proofs.Common.{◌≡◌, rules}
use Rattle.shard.specs.declared.entry.Entry.TheVariants as E
use Rattle.shard.specs.Replies.{strategy_of}
use Rattle.shard.proofs.Finding.{found_at}
use Rattle.shard.proofs.Welcoming.{welcomes_new, welcomes_resident, welcomes_placeholder, welcomes_ghost}
use Rattle.shard.proofs.cache_shard.CacheShard.let_in.Goals as goal
use Rattle.shard.proofs.cache_shard.CacheShard.let_in.Goals.{in-None-Insert, in-Some-Resident-default, in-Some-Placeholder-Insert, in-Some-Ghost-Insert}

pub returns-clause-model : goal.returns-clause-model
returns-clause-model g c =
    let a = c.args.arrival in
    let x = c.args.self.now.layout in
    elim c.match-found.branch [
      | in-None-Insert w ↦
          rw (w.self-is, w.state-is, w.in-None-Insert.is-0, w.in-None-Insert.is-1)
          (welcomes_new (g.W.Weighter.weight a.weighter.now) (g.L.Lifecycle.life c.args.life.now) a.key a.hash a.value x _ c.args.state.now _ w.insert_absent.ensures.model)
      | in-Some-Resident-default w ↦
          let f = w.in-Some-Resident-default in
          let is : c.args.found ≡ found_at f.at (E.Resident f.r) = search rules in
          rw (w.self-is, w.state-is, is)
          (welcomes_resident (g.W.Weighter.weight a.weighter.now) (g.L.Lifecycle.life c.args.life.now) a.key a.hash a.value x w.replace_resident.new.self.layout c.args.state.now w.replace_resident.new.state f.at f.r (rw is at c.requires.place) (strategy_of c.args.strategy) (rw f.at-is at w.replace_resident.ensures.model))
      | in-Some-Placeholder-Insert w ↦
          let f = w.in-Some-Placeholder-Insert in
          let is : c.args.found ≡ found_at f.at (E.Placeholder f.q) = search rules in
          rw (w.self-is, w.state-is, is, f.is-1)
          (welcomes_placeholder (g.W.Weighter.weight a.weighter.now) (g.L.Lifecycle.life c.args.life.now) a.key a.hash a.value x w.supplant.new.self.layout c.args.state.now w.supplant.new.state f.at f.q (rw f.at-is at w.supplant.ensures.model))
      | in-Some-Ghost-Insert w ↦
          let f = w.in-Some-Ghost-Insert in
          let is : c.args.found ≡ found_at f.at E.Ghost = search rules in
          rw (w.self-is, w.state-is, is, f.is-1)
          (welcomes_ghost (g.W.Weighter.weight a.weighter.now) (g.L.Lifecycle.life c.args.life.now) a.key a.hash a.value x w.revive.new.self.layout c.args.state.now w.revive.new.state f.at (rw f.at-is at w.revive.ensures.model))
    ]
