-- A fresh shard is the model's fresh state.
use Rattle.std.proofs.Common.{◌≡◌, ℕ, ◌≤◌, min, true, [], length, sym, refl, ◌∙◌, subst}
use native.Mathlib.Nat.{min_comm}
use Rattle.interface.specs.Meaning.{Keying}
use Rattle.settings.specs.Standing.{limits}
use Rattle.settings.specs.declared.options.Settings.{Settings}
use Rattle.model.specs.Calls.{fresh as fresh_state}
use Rattle.model.proofs.Runs.{laws_of_states}
use Rattle.ring_slab.specs.Calls.{slots_of, Fresh}
use Rattle.ring_slab.specs.declared.linked_slab.LinkedSlab.{LinkedSlab}
use Rattle.shard.specs.declared.entry.Entry.{Entry}
use Rattle.shard.specs.Layout.{hash_at}
use Rattle.shard.specs.Shows.{Hashed, Shows}
use Rattle.shard.specs.Depicts.{Depicts}
use Rattle.shard.proofs.Moves.{fresh_shard, fresh_places, fresh_stands, all_none}

module _ {K V : Type 0} (e : Keying K) (m : LinkedSlab (Entry K V)) (settings : Settings) (fresh : Fresh m) where
  pub fresh_shows : Shows e (fresh_shard m settings 0 fresh) (fresh_places m settings 0 fresh) (record { hot = []; cold = []; off = []; ghosts = []; events = [] }) []
  fresh_shows =
      record {
        stands = fresh_stands m settings 0 fresh;
        settled = refl;
        keyed = λ k. subst (λ o. Hashed e o (hash_at (fresh_shard m settings 0 fresh) k)) (sym (all_none m settings 0 fresh k)) tt;
        hot = refl;
        cold = refl;
        ghosts = refl;
        offs = [];
        waits = [];
        off = refl;
        placeholders = refl;
        loose = λ k. refl;
      }

  pub fresh_depicts : (n : ℕ) → length (slots_of m) ≡ min 1048576 n → (limits settings).target ≤ (limits settings).capacity → ((x y : K) → e.same x y ≡ true → e.same y x ≡ true) → ((x y z : K) → e.same x y ≡ true → e.same y z ≡ true → e.same x z ≡ true) → Depicts e (fresh_shard m settings 0 fresh) (fresh_state n (limits settings))
  fresh_depicts n size h symmetric transitive =
      record {
        places = fresh_places m settings 0 fresh;
        shows = fresh_shows;
        limits = refl;
        next = refl;
        size = size ∙ min_comm 1048576 n;
        edit = refl;
        quiet = refl;
        standing = (laws_of_states e (record { symmetric = symmetric; transitive = transitive })).at_first n (limits settings) h;
      }
