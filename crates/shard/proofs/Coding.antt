-- What was found is kept under the key's hash, and whether a slot is lacking.
use Rattle.std.proofs.Common.{◌≡◌, ℕ, true, false, eqb, leb, List, ◌∷◌, ◌++◌, length, Some, sym, refl, ap, ◌∙◌, subst, None, Option}
use Rattle.std.proofs.lemmas.Bool.{eqb-true}
use Rattle.std.proofs.lemmas.List.{append_cancel_left}
use Rattle.interface.specs.Meaning.{Keying}
use Rattle.model.specs.Lists.{Pick, nothing, here, pick, mapped}
use Rattle.model.specs.Entries as model
use Rattle.model.specs.Calls as calls
use Rattle.model.specs.Calls.{State, eventless, entries}
use Rattle.model.proofs.Lists.{Picked, picked}
use Rattle.model.proofs.Searching.{Known, known}
use Rattle.shard.specs.declared.strategy.InsertStrategy.{InsertStrategy}
use Rattle.shard.specs.declared.strategy.InsertStrategy.TheVariants as I
use Rattle.shard.specs.declared.found.Found.{Found}
use Rattle.shard.specs.declared.layout.Layout.{Layout}
use Rattle.shard.specs.Layout.{Places, slots, hash_at}
use Rattle.shard.specs.Shows.{Hashed, Shows}
use Rattle.shard.specs.Finds.{Agrees, AtItsPlace}
use Rattle.shard.specs.Replies.{strategy_of}
use Rattle.shard.specs.Arrivals.{Coded, no_slot}
use Rattle.shard.proofs.Views.{mapped_append}
use Rattle.shard.proofs.Slots.{used_is}

module _ {K V : Type 0} {e : Keying K} {x : Layout K V} {p : Places} (s : State K V) (w : Shows e x p s.rings s.placeholders) (size : length (slots x) ≡ s.slots) where
  full_is : leb s.slots (entries s) ≡ leb (length (slots x)) x.slab.used
  full_is = cc (used_is w)

  pub lacks_is : (i : InsertStrategy) (found : Option (Found K V)) (f : calls.Found K V) → Agrees x p w.offs w.waits f found → calls.lacks_slot (strategy_of i) f (eventless s) ≡ no_slot i found x
  lacks_is I.Insert None calls.not_found h = full_is
  lacks_is I.Insert None (calls.resident_at y b m a) h = absurd h
  lacks_is I.Insert None (calls.placeholder_at b m a) h = absurd h
  lacks_is I.Insert None (calls.ghost_at b g a) h = absurd h
  lacks_is I.Insert (Some h₀) calls.not_found h = absurd h
  lacks_is I.Insert (Some h₀) (calls.resident_at y b m a) h = refl
  lacks_is I.Insert (Some h₀) (calls.placeholder_at b m a) h = refl
  lacks_is I.Insert (Some h₀) (calls.ghost_at b g a) h = refl
  lacks_is (I.Replace true) found f h = refl
  lacks_is (I.Replace false) found f h = refl

module _ {K V : Type 0} (e : Keying K) (k : K) (s : State K V) where
  -- a ghost that is found is the hash of k
  abbrev Ghostly : calls.Found K V → Type 0
  Ghostly calls.not_found = Unit {0}
  Ghostly (calls.resident_at y b m a) = Unit {0}
  Ghostly (calls.placeholder_at b m a) = Unit {0}
  Ghostly (calls.ghost_at b g a) = e.code k ≡ g

  ghostly_by : (z : model.Spot K V) (o : Pick (model.Placeholder K)) (q : Pick ℕ) → Picked (eqb (e.code k)) s.rings.ghosts q → Ghostly (calls.found_resident z (calls.found_placeholder o (calls.found_ghost q)))
  ghostly_by (model.at y b m a) o q h = tt
  ghostly_by model.nowhere (here b m a) q h = tt
  ghostly_by model.nowhere nothing nothing h = tt
  ghostly_by model.nowhere nothing (here b g a) h = eqb-true (e.code k) g h.0

  ghostly : Ghostly (calls.search_for e k s)
  ghostly = ghostly_by (calls.resident_of e k s) (pick (λ p. e.same p.key k) s.placeholders) (pick (eqb (e.code k)) s.rings.ghosts) (picked (eqb (e.code k)) s.rings.ghosts)

  module _ {x : Layout K V} {p : Places} (w : Shows e x p s.rings s.placeholders) (hashes : (y z : K) → e.same y z ≡ true → e.code y ≡ e.code z) where
    coded_by : (found : Option (Found K V)) (f : calls.Found K V) → Known e k s f → Ghostly f → Agrees x p w.offs w.waits f found → AtItsPlace x found → Coded e k x found
    coded_by None f i j h place = tt
    coded_by (Some h₀) calls.not_found i j h place = absurd h
    coded_by (Some h₀) (calls.resident_at y b m a) i j h place =
        subst (λ o. Hashed e o (hash_at x h₀.at)) (place ∙ ap Some h.0) (w.keyed h₀.at) ∙ hashes m.key k i.1
    coded_by (Some h₀) (calls.placeholder_at b m a) i j h place =
        subst (λ o. Hashed e o (hash_at x h₀.at)) (place ∙ ap Some h.0) (w.keyed h₀.at) ∙ hashes m.key k i.1
    coded_by (Some h₀) (calls.ghost_at b g a) i j h place =
        let c = h.1.0 in
        let d = h.1.1 in
        let front : mapped (hash_at x) c ++ (hash_at x h₀.at ∷ mapped (hash_at x) d) ≡ b ++ (g ∷ a) =
        sym (mapped_append (hash_at x) c (h₀.at ∷ d)) ∙ ap (mapped (hash_at x)) (sym h.1.2) ∙ w.ghosts ∙ i.0 in
        let same : hash_at x h₀.at ∷ mapped (hash_at x) d ≡ g ∷ a = append_cancel_left b _ _ (ap (λ (l : List ℕ). l ++ (hash_at x h₀.at ∷ mapped (hash_at x) d)) (sym h.1.3) ∙ front) in
        cc j

    -- What a search for k finds is kept under its hash.
    pub coded : (found : Option (Found K V)) → Agrees x p w.offs w.waits (calls.search_for e k s) found → AtItsPlace x found → Coded e k x found
    coded found h place = coded_by found (calls.search_for e k s) (known e k s) ghostly h place
