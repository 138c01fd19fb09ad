-- The place leaves its ring, which goes on from its successor.
use Rattle.std.proofs.Common.{[]}
use Rattle.shard.proofs.Moves.{in_places, can_unlink, turn_out_places, turn_out_sound}
use Rattle.shard.proofs.layout.Layout.turn_out.Goals as goal

pub unlink-next-requires : goal.unlink-next-requires
unlink-next-requires g c = can_unlink c.requires.sound c.args.name c.args.at (in_places c.args.name c.args.self.now [] c.args.at c.requires.there)

pub returns-clause-places : goal.returns-clause-places
returns-clause-places g c =
    turn_out_places c.args.name c.args.at c.args.self.now c.set_ring.new.self c.unlink-next.new.self c.ring-ring.result c.unlink-next.result c.ring-ring.ensures c.unlink-next.ensures.lists c.unlink-next.ensures.items c.unlink-next.ensures.chains.hashes c.set_ring.ensures

pub returns-clause-sound : goal.returns-clause-sound
returns-clause-sound g c = turn_out_sound c.args.name c.args.at c.args.self.now c.set_ring.new.self (returns-clause-places g c) c.requires.sound c.requires.there
