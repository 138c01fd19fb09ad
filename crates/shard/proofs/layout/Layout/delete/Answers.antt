-- The place leaves its ring; the head moves on only where it was that place.
use Rattle.std.proofs.Common.{◌≡◌, ℕ, [], Some, refl, ◌∙◌}
use Rattle.std.proofs.lemmas.Bool.{both_ways}
use Rattle.shard.proofs.Counts.{test_of}
use Rattle.shard.proofs.Moves.{in_places, can_unlink, delete_places, delete_sound}
use Rattle.shard.proofs.layout.Layout.delete.Goals as goal
use Rattle.shard.proofs.layout.Layout.delete.Goals.{then-eq, else-eq}

pub unlink-next-requires : goal.unlink-next-requires
unlink-next-requires g c = can_unlink c.requires.sound c.args.name c.args.at (in_places c.args.name c.args.self.now [] c.args.at c.requires.there)

pub returns-clause-places : goal.returns-clause-places
returns-clause-places g c =
    let head = c.ring-ring.result.head in
    let test = test_of head c.args.at c.eq.result c.eq.ensures in
    let stays : (h : ℕ) → head ≡ Some h → (h ≡ c.args.at → ⊥) → c.if-eq.head ≡ Some h = λ h e ne. elim c.if-eq.branch [ then-eq w ↦ absurd (ne ((test h e).0 w.if-eq.true)) | else-eq w ↦ w.head-is ∙ e ] in
    let goes : head ≡ Some c.args.at → c.if-eq.head ≡ c.unlink-next.result = λ e. elim c.if-eq.branch [ then-eq w ↦ w.head-is | else-eq w ↦ absurd (both_ways c.eq.result w.if-eq.false ((test c.args.at e).1 refl)) ] in
    delete_places c.args.name c.args.at c.args.self.now c.set_ring.new.self c.unlink-next.new.self c.ring-ring.result c.unlink-next.result c.ring-ring.ensures c.unlink-next.ensures.lists c.unlink-next.ensures.items c.unlink-next.ensures.chains.hashes c.if-eq.head stays goes c.set_ring.ensures

pub returns-clause-sound : goal.returns-clause-sound
returns-clause-sound g c = delete_sound c.args.name c.args.at c.args.self.now c.set_ring.new.self (returns-clause-places g c) c.requires.sound c.requires.there
