-- A turn of a walk block by block: a landing with target 0 from a start holds the block that the definitions read there, and the start
-- behind it is where they read on. Where the landing is refused they read no more.
-- Assumes nothing.
use Rattle.format.specs.declared.refusal.Refusal.{Refusal}
use Rattle.std.specs.Prelude.{◌≡◌, ℕ, ◌+◌, ◌^◌, ◌<◌, ◌≤◌, min, List, length, Ok, Err}
use mathlib.Core.Path.{refl, sym, ap, ◌∙◌}
use native.Mathlib.Omega.{arith}
use Rattle.format.specs.declared.Layout.{Layout}
use Rattle.format.specs.declared.Term.{Term}
use Rattle.format.specs.Basics.{TERMINATED}
use Rattle.format.specs.Layout.{layout, full_blocks_of}
use Rattle.format.specs.Reading.{Reading, nothing, before, reading}
use Rattle.segment_postings.specs.declared.find.Start.{Start}
use Rattle.segment_postings.specs.declared.Held.{Held}
use Rattle.segment_postings.specs.Calls.{cursor_of}
use Rattle.segment_postings.specs.Cursor.{least_after_of, start_behind_of}
use Rattle.segment_postings.specs.Landing.{first_start_of, landing}
use Rattle.segment_postings.specs.Private.{FindsFrom}
use Rattle.segment_postings.proofs.layout.SplitParts.{laid_out}
use Rattle.segment_postings.proofs.Admission.LandingReads.{BlockHeld, block_held, landing-none, reads_on}
use Rattle.segment_postings.proofs.Admission.WalkReads.{walking, walking-from, reading_at, reading-whole}

module _ (t : Term) (l : Layout) (bs : List ℕ) where
  -- what is read from a start on
  abbrev pub reading_from : Start → Reading
  reading_from s = reading_at t l bs s.block s.at s.least

  -- a start of the walk
  pub record WalksFrom (s : Start) : Type 0 where
    pub laid : layout t bs ≡ Ok l
    pub block_most_is : s.block ≤ full_blocks_of t
    pub inside : s.at ≤ length bs
    is_walking : s ≡ walking s.block s.at s.least

  pub walks-first : {s : Start} → layout t bs ≡ Ok l → s ≡ first_start_of l → WalksFrom s × (reading t bs ≡ reading_from s)
  walks-first laid is = (
    record { laid = laid; block_most_is = rw is (omega arith); inside = rw is (laid_out t bs laid).inside; is_walking = rw is refl },
    rw is (reading-whole t l bs laid),
  )

  module _ {s : Start} (w : WalksFrom s) where
    pub few-blocks : t.count < 2 ^ 32 → s.block + 1 < 2 ^ 64
    unfolding full_blocks_of
    few-blocks few = omega (arith, w.block_most_is)

    pub lands-from : t.count < 2 ^ 32 → FindsFrom t bs s × (s.unpacked + 1 < 2 ^ 64)
    lands-from few = (
      rw w.is_walking (walking-from t l bs w.block_most_is w.inside),
      omega (arith, few-blocks few, ap (λ (x : Start). x.unpacked) w.is_walking),
    )

    pub turn-none : {r : Refusal} → landing t bs l 0 s ≡ Err r → reading_from s ≡ nothing (Err r)
    turn-none e = landing-none t l bs s.block s.at s.least (sym (ap (λ (x : Start). landing t bs l 0 x) w.is_walking) ∙ e)

    module _ {h : Held} {docs freqs : List ℕ} where
      pub turn-held : landing t bs l 0 s ≡ Ok (cursor_of h docs freqs) → BlockHeld t l bs s.block s.at s.least h docs freqs
      turn-held e =
          block_held t l bs s.block s.at s.least w.inside (sym (ap (λ (x : Start). landing t bs l 0 x) w.is_walking) ∙ e)

      module _ (k : BlockHeld t l bs s.block s.at s.least h docs freqs) (some : s.block < full_blocks_of t) where
        pub behind-walking : start_behind_of h ≡ walking (s.block + 1) h.next (h.last_doc + 1)
        unfolding least_after_of
        behind-walking =
            let n = k.next some in
            let least : min (h.last_doc + 1) TERMINATED ≡ h.last_doc + 1 = omega (arith, n.last_below) in
            rw (n.block_is, least, n.entries_are, n.unpacked_is)

        -- the start behind the block
        pub record Turn (s' : Start) : Type 0 where
          pub block_is : s'.block ≡ s.block + 1
          pub walks : WalksFrom s'
          pub reads : reading_from s ≡ (before (Ok k.block) λ _. reading_from s')

        pub turn : {s' : Start} → s' ≡ start_behind_of h → Turn s'
        turn {s'} e =
            let is : s' ≡ walking (s.block + 1) h.next (h.last_doc + 1) = e ∙ behind-walking in
            record {
              block_is = ap (λ (x : Start). x.block) is;
              walks = record {
                laid = w.laid;
                block_most_is = rw is (omega arith);
                inside = rw is (k.next some).inside;
                is_walking = rw is refl;
              };
              reads = rw is (reads_on t l bs s.block s.at s.least k some);
            }
