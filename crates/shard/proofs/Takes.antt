-- Taking a resident out of a ring: after the hot hand's walk, or where the cold hand stopped.
use Rattle.std.proofs.Common.{◌≡◌, ℕ, ◌+◌, ◌≤◌, Bool, List, [], ◌∷◌, ◌++◌, length, IfSome, Some, None, Option, sym, refl, ap, ◌∙◌, subst, arith}
use Rattle.std.proofs.lemmas.List.{length-map, length-append}
use Rattle.interface.specs.Meaning.{Keying}
use Rattle.model.specs.Lists.{mapped, every, Pick, nothing, here}
use Rattle.model.specs.Entries as model
use Rattle.model.specs.Hands.{Context, pinned, hot_stop}
use Rattle.ring_slab.specs.Places.{look, count}
use Rattle.ring_slab.specs.Slots.{nexts, items}
use Rattle.ring_slab.specs.Rings.{ring_from, walk}
use Rattle.ring_slab.specs.declared.linked_slab.LinkedSlab.{LinkedSlab}
use Rattle.ring_slab.proofs.Counts.{split_at}
use Rattle.shard.specs.declared.entry.Entry.{Entry}
use Rattle.shard.specs.declared.ring.RingName.TheVariants.{Hot}
use Rattle.shard.specs.declared.layout.Layout.{Layout}
use Rattle.shard.specs.Layout.{Places, in_ring, kind_of, slots, entry_at, hash_at, ringed, ring_places, Stands, places, Sound, SameEntries}
use Rattle.shard.specs.Moves.{TurnsOut}
use Rattle.shard.specs.Shows.{plain, seen, Shown, Hashed, Shows}
use Rattle.shard.specs.Carries.{Contents}
use Rattle.shard.specs.Steps.{SameTerms, NoMoreUsed}
use Rattle.shard.specs.Hands.{listed, unread, Lie, OnlyReads, SameShape, Stopped, WalksHot, Taken, TakesHot}
use Rattle.shard.proofs.Tallies.{Alike}
use Rattle.shard.proofs.Standing.{places_most, ring_is, headless, stands_sound, SameFrame, touched}
use Rattle.shard.proofs.Views.{mapped_same, shows_from, entry_kept, contents_kept, none_of_them}
use Rattle.shard.proofs.Walks.{stop_none}

module _ {K V : Type 0} where
  -- ---- entries that differ in their reads alone
  alike_reads : (o o' : Option (Entry K V)) → unread o' ≡ unread o → Alike o o'
  alike_reads o o' e = grind arith

  hashed_reads : (e : Keying K) (h : ℕ) (o o' : Option (Entry K V)) → unread o' ≡ unread o → Hashed e o h → Hashed e o' h
  hashed_reads e h o o' i k = grind arith

  -- ---- the shard over another slab
  abbrev pub over : LinkedSlab (Entry K V) → Layout K V → Layout K V
  over m x = record { slab = m; settings = x.settings; hot = x.hot; cold = x.cold; ghosts = x.ghosts; tally = x.tally; issued = x.issued }

  -- ---- how many slots are used, and how long the rings are
  pub same_size : (x x' : Layout K V) → items (slots x') ≡ items (slots x) → length (slots x') ≡ length (slots x)
  same_size x x' e = sym (length-map (slots x') (λ s. s.item)) ∙ ap length e ∙ length-map (slots x) (λ s. s.item)

  pub terms_kept : (x x' : Layout K V) → SameEntries x x' → SameTerms x x'
  terms_kept x x' e = grind (arith, same_size)

  pub used_same : (x x' : Layout K V) (p p' : Places) → Stands x p → Stands x' p' → length p'.vacant ≡ length p.vacant → length (slots x') ≡ length (slots x) → x'.slab.used ≡ x.slab.used
  used_same x x' p p' w w' v n = omega (arith, w.laid.held.counted, w'.laid.held.counted)

  -- ---- after a walk that took reads
  module _ (x : Layout K V) (m : LinkedSlab (Entry K V)) (shape : SameShape x.slab m) (only : OnlyReads (slots x) (slots (over m x))) where
    walked : Layout K V
    walked = over m x

    frame : SameFrame x (over m x)
    frame = record { links = shape.links; free = shape.free; used = shape.used; hot = refl; cold = refl; ghosts = refl; tally = refl }

    pub walked_stands : (p : Places) → Stands x p → Stands (over m x) p
    walked_stands p w = touched frame (λ k. alike_reads (entry_at x k) (entry_at (over m x) k) (only k)) w

    pub walked_sound : (h : List ℕ) → Sound x h → Sound (over m x) h
    walked_sound h w = stands_sound (walked_stands (places x h) w)

    pub walked_kind : (k : ℕ) → kind_of (entry_at (over m x) k) ≡ kind_of (entry_at x k)
    walked_kind k = (alike_reads (entry_at x k) (entry_at (over m x) k) (only k)).kind

    -- what is shown: the hot ring has changed alone
    walked_contents : (e : Keying K) (p : Places) (t : model.Rings K V) (ps : List (model.Placeholder K)) → Shows e x p t ps → ((k : ℕ) → count k p.hot ≡ 0 → entry_at (over m x) k ≡ entry_at x k) →
        (ks h : List ℕ) (rs : List (model.Resident K V)) → Shown (over m x) ks rs → Contents e (over m x) (ringed Hot ks h p) (model.put model.hot_ring rs t) ps
    walked_contents e p t ps s off ks h rs sh =
        let once = places_most s.stands in
        let kept : (zs : List ℕ) → ((k : ℕ) → 1 ≤ count k zs → count k p.hot ≡ 0) → seen (over m x) zs ≡ seen x zs = λ zs out. mapped_same (entry_at (over m x)) (entry_at x) zs (λ k i. off k (out k i)) in
        record {
          keyed = λ k. subst (λ (l : List ℕ). Hashed e (entry_at (over m x) k) (look l k)) (sym shape.links.hashes) (hashed_reads e (hash_at x k) (entry_at x k) (entry_at (over m x) k) (only k) (s.keyed k));
          hot = sh;
          cold = kept p.cold (λ k i. omega (arith, once k)) ∙ s.cold;
          ghosts = ap (λ (l : List ℕ). mapped (λ k. look l k) p.ghosts) shape.links.hashes ∙ s.ghosts;
          offs = s.offs;
          waits = s.waits;
          off = kept s.offs (λ k i. omega (arith, once k, s.loose k)) ∙ s.off;
          placeholders = kept s.waits (λ k i. omega (arith, once k, s.loose k)) ∙ s.placeholders;
          loose = s.loose;
        }

  -- ---- what `take_hot` promises
  pub record Took (pins : K → V → Bool) (x x' : Layout K V) (answer : Option ℕ) : Type 0 where
    pub sound : Sound x' (listed answer)
    pub kind : IfSome answer (λ at. kind_of (entry_at x' at) ≡ in_ring Hot)
    pub used : NoMoreUsed x x'
    pub hot : x'.hot.len + length (listed answer) ≡ x.hot.len
    pub cold : x'.cold.len ≡ x.cold.len
    pub model : TakesHot pins x x' answer

  -- the ring is empty
  pub took_none : (pins : K → V → Bool) (x : Layout K V) → x.hot.head ≡ None → TakesHot pins x x None
  took_none pins x none e u p t ps _ s =
      let empty : p.hot ≡ [] = headless s.stands Hot none in
      let no_rs : t.hot ≡ [] = none_of_them (entry_at x) (λ r. Some (plain r)) t.hot (ap (seen x) (sym empty) ∙ s.hot) in
      let same : t.hot ≡ mapped model.less_read t.hot = no_rs ∙ ap (mapped model.less_read) (sym no_rs) in
      subst (λ o. Taken e x t ps o None) (sym (stop_none u t.hot (ap (every (pinned u)) no_rs)))
      (p, subst (λ rs. Shows e x p (model.put model.hot_ring rs t) ps) same s)

  module _ (pins : K → V → Bool) (x : Layout K V) (m : LinkedSlab (Entry K V)) (head : ℕ) (sound : Sound x []) (is : x.hot.head ≡ Some head) (shape : SameShape x.slab m) (only : OnlyReads (slots x) (slots (over m x)))
      (off : (k : ℕ) → count k (walk (look (nexts (slots x))) head x.hot.len) ≡ 0 → entry_at (over m x) k ≡ entry_at x k) where
    abbrev ring : List ℕ
    ring = walk (look (nexts (slots x))) head x.hot.len

    pub ring_there : ring_places Hot x ≡ ring
    ring_there = ap (λ h. ring_from (slots x) h x.hot.len) is

    ring_of : (p : Places) → Stands x p → p.hot ≡ ring
    ring_of p w = sym (ring_is w Hot) ∙ ring_there

    terms : SameTerms x (over m x)
    terms = record { settings = refl; issued = refl; size = shape.links.len }

    -- the walk stopped nowhere
    pub took_no_stop : WalksHot pins ring (slots x) (slots (over m x)) None → Took pins x (over m x) None
    took_no_stop walks =
        record {
          sound = walked_sound x m shape only [] sound;
          kind = tt;
          used = record { terms = terms; used = omega (arith, shape.used) };
          hot = omega arith;
          cold = refl;
          model = λ e u p t ps pe s.
              let r = ring_of p s.stands in
              go e u p t ps s (hot_stop u t.hot) (walks u t.hot pe (subst (λ z. Lie (slots x) z t.hot) r s.hot));
        }
      where
        go : (e : Keying K) (u : Context K V) (p : Places) (t : model.Rings K V) (ps : List (model.Placeholder K)) → Shows e x p t ps → (o : Pick (model.Resident K V)) → Stopped (slots (over m x)) ring t.hot o None → Taken e (over m x) t ps o None
        go e u p t ps s nothing st =
            let r = ring_of p s.stands in (
              p,
              shows_from (walked_stands x m shape only p s.stands) s.settled
                  (walked_contents x m shape only e p t ps s (λ k z. off k (ap (count k) (sym r) ∙ z)) p.hot p.hand (mapped model.less_read t.hot) (subst (λ z. Lie (slots (over m x)) z (mapped model.less_read t.hot)) (sym r) st)),
            )
        go e u p t ps s (here b q a) st = st

    -- it stopped, and the place was turned out
    module _ (at : ℕ) (there : 1 ≤ count at ring) (x' : Layout K V) (sound' : Sound x' (at ∷ [])) (turns : TurnsOut Hot at (over m x) x') (same : SameEntries (over m x) x') where
      turned : (p : Places) → Stands x p → p.hand ≡ [] → (c d : List ℕ) → ring ≡ c ++ at ∷ d → Stands x' (ringed Hot (d ++ c) (at ∷ []) p)
      turned p w none c d split = turns p c d (walked_stands x m shape only p w) none (ring_of p w ∙ split)

      pub took_out : WalksHot pins ring (slots x) (slots (over m x)) (Some at) → Took pins x x' (Some at)
      took_out walks =
          let p = places x [] in
          let q = split_at at ring there in
          let w' = turned p sound refl q.0 q.1 q.2 in
          let n : length (slots x') ≡ length (slots x) = same_size (over m x) x' same.items ∙ shape.links.len in
          record {
            sound = sound';
            kind = ap kind_of (entry_kept (over m x) x' same at) ∙ walked_kind x m shape only at ∙ sound.ranked.hot at (subst (λ z. 1 ≤ count at z) (sym ring_there) there);
            used = record { terms = record { settings = same.settings; issued = same.issued; size = n }; used = omega (arith, used_same x x' p (ringed Hot (q.1 ++ q.0) (at ∷ []) p) sound w' refl n) };
            hot = omega (arith, w'.laid.hot.len, sound.laid.hot.len, ap length (ring_there ∙ q.2), length-append q.0 (at ∷ q.1), length-append q.1 q.0);
            cold = w'.laid.cold.len ∙ sym sound.laid.cold.len;
            model = λ e u p t ps pe s. go e u p t ps s (hot_stop u t.hot) (walks u t.hot pe (subst (λ z. Lie (slots x) z t.hot) (ring_of p s.stands) s.hot));
          }
        where
          go : (e : Keying K) (u : Context K V) (p : Places) (t : model.Rings K V) (ps : List (model.Placeholder K)) → Shows e x p t ps → (o : Pick (model.Resident K V)) → Stopped (slots (over m x)) ring t.hot o (Some at) → Taken e x' t ps o (Some at)
          go e u p t ps s nothing st = st
          go e u p t ps s (here b r a) (c, d, split, lie) =
              let all : entry_at (over m x) at ∷ seen (over m x) (d ++ c) ≡ Some (plain r) ∷ mapped (λ r. Some (plain r)) (a ++ b) = lie in
              let hd : entry_at (over m x) at ≡ Some (plain r) = cc in
              let tl : seen (over m x) (d ++ c) ≡ mapped (λ r. Some (plain r)) (a ++ b) = cc in
              let i = ring_of p s.stands in (
                ringed Hot (d ++ c) (at ∷ []) p,
                record {
                  stands = turned p s.stands s.settled c d split;
                  held = refl;
                  entry = entry_kept (over m x) x' same at ∙ hd;
                  contents = contents_kept (over m x) x' same (walked_contents x m shape only e p t ps s (λ k z. off k (ap (count k) (sym i) ∙ z)) (d ++ c) (at ∷ []) (a ++ b) tl);
                },
              )
