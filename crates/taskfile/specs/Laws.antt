-- What the scan knows of its place, what that gives the writers, and reading case by case.
-- Assumes nothing.
use Rattle.std.specs.Prelude.{◌≡◌, refl, Bool, true, false, ◌&&◌, List, ltb, min, Result, Ok, Err, IfOk, MatchResult}
use Rattle.std.proofs.Math.Path.{sym, ap}
use Rattle.std.proofs.Common.{◌∙◌}
use Rattle.std.proofs.lemmas.Result.{MatchResult-at_ok, IfOk-at_ok}
use Prim.Native.Nat.{ℕ, zero, suc, ◌+◌, ◌-◌, ◌*◌, ◌≤◌, ◌<◌}
use Rattle.std.proofs.Math.Nat.{add-mul}
use native.Mathlib.Omega.{arith}
use Rattle.std.proofs.Math.ListN.{length}
use Rattle.std.proofs.Math.Dec.{leb, eqb}
use borrow.Author.Tests.{leb-true, leb-false, ltb-true, eqb-true, le-leb, lt-leb}
use Rattle.laws.specs.Truth.{and_left, and_right, cond_cases, provided, provided_either}
use Rattle.laws.specs.Fold.{fold, fold_zero, fold_more, fold_still}
use Rattle.taskfile.specs.declared.Scan.{Scan}
use Rattle.taskfile.specs.declared.Contents.{Contents}
use Rattle.taskfile.specs.declared.faults.Fault.{Fault}
use Rattle.taskfile.specs.declared.faults.FaultKind.{FaultKind}
use Rattle.taskfile.specs.declared.faults.FaultKind.TheVariants.{CutShort, TooLarge, ShortSlice}
use Rattle.taskfile.specs.Bytes.{byte, word}
use Rattle.taskfile.specs.BytesLaws.{word_is}
use Rattle.taskfile.specs.Records.{payload_place, head_length, passage_length, row_length, call_length, row_place, call_place}
use Rattle.taskfile.specs.Scan.{payload_length, kind, begun, complete, head_at, passage_at, row_at, call_at, record_at, advance, located, continued, ended, scanned}
use Rattle.taskfile.specs.Contents.{FileReading, file_fault, file_read, roomy_for, reading_of, read_of}

-- a row's record: its length and kind, its number and its estimates
pub row_width : (n : ℕ) → payload_place + row_length n ≡ 6 + 4 * n
row_width n = omega arith

-- the record at the scan's place is whole, in a file that is not too long
pub record Inside (file : List ℕ) (s : Scan) : Type 0 where
  pub short : length file ≤ 65536
  pub whole : s.at + 4 + payload_length file s.at ≤ length file

-- what holds of every scan: before the head nothing is counted, after it the place follows from the counts
pub record Placed (file : List ℕ) (s : Scan) : Type 0 where
  pub small : s.n ≤ 64
  pub few : s.passages ≤ 512
  pub inside : s.at ≤ length file
  pub headless : s.n ≡ 0 → ((s.at ≡ 0) × (s.passages ≡ 0)) × ((s.rows ≡ 0) × (s.calls ≡ 0))
  pub place : 1 ≤ s.n → s.at ≡ row_place s.passages s.n s.rows + (payload_place + call_length) * s.calls

-- a record without fault leaves a placed scan, further on
pub record Onward (file : List ℕ) (s t : Scan) : Type 0 where
  pub placed : Placed file t
  pub further : s.at < t.at

-- what holds of what a test lets through holds of the `Ok` of both
pub passed : {A E : Type 0} (P : A → Type 0) (test : Bool) (e : E) (r : Result A E) → (test ≡ true → IfOk r P) → IfOk (provided test (Err e) r) P
passed P test e r f = provided_either (λ q. IfOk q P) test (Err e) r tt f

-- the start is placed, and so is what each record leaves
module _ (file : List ℕ) where
  placed_begun : Placed file begun
  placed_begun = record {
    small = omega arith;
    few = omega arith;
    inside = omega arith;
    headless = λ _. ((refl, refl), (refl, refl));
    place = λ l. absurd (omega arith);
  }

  module _ (s : Scan) (p : Placed file s) where
    module _ (whole : s.at + 4 + payload_length file s.at ≤ length file) where
      placed_head : IfOk (head_at file s) (Onward file s)
      unfolding head_at
      placed_head =
          passed (Onward file s) (eqb s.n 0 && eqb (payload_length file s.at) head_length) _ _
          (λ t. passed (Onward file s) (leb 1 (word file (s.at + 4)) && leb (word file (s.at + 4)) 64) _ _
          (λ u.
          let h = p.headless (eqb-true s.n 0 (and_left _ _ t)) in
          let q = eqb-true (payload_length file s.at) head_length (and_right (eqb s.n 0) _ t) in
          let one = leb-true 1 (word file (s.at + 4)) (and_left _ _ u) in
          record {
            placed = record {
              small = leb-true (word file (s.at + 4)) 64 (and_right (leb 1 (word file (s.at + 4))) _ u);
              few = p.few;
              inside = omega (arith, q, whole);
              headless = λ z. absurd (omega (arith, z, one));
              place = λ _. rw h.1.0 (omega (arith, h.0.0, h.0.1, h.1.1));
            };
            further = omega arith;
          }))

      placed_passage : IfOk (passage_at file s) (Onward file s)
      unfolding passage_at
      placed_passage =
          passed (Onward file s) (leb 1 s.n && (eqb s.rows 0 && eqb (payload_length file s.at) passage_length)) _ _
          (λ t. passed (Onward file s) (ltb s.passages 512) _ _
          (λ u.
          let one = leb-true 1 s.n (and_left _ _ t) in
          let q = eqb-true (payload_length file s.at) passage_length (and_right (eqb s.rows 0) _ (and_right (leb 1 s.n) _ t)) in
          record {
            placed = record {
              small = p.small;
              few = omega (arith, ltb-true s.passages 512 u);
              inside = omega (arith, q, whole);
              headless = λ z. absurd (omega (arith, z, one));
              place = λ l. omega (arith, p.place l);
            };
            further = omega arith;
          }))

      placed_row : IfOk (row_at file s) (Onward file s)
      unfolding row_at
      placed_row =
          passed (Onward file s) (ltb s.rows s.n && (eqb (payload_length file s.at) (row_length s.n) && eqb (word file (s.at + 4)) s.rows)) _ _
          (λ t.
          let one = ltb-true s.rows s.n (and_left _ _ t) in
          let q = eqb-true (payload_length file s.at) (row_length s.n) (and_left _ _ (and_right (ltb s.rows s.n) _ t)) in
          record {
            placed = record {
              small = p.small;
              few = p.few;
              inside = omega (arith, q, whole);
              headless = λ z. absurd (omega (arith, z, one));
              place = λ l. omega (arith, p.place l, add-mul s.rows 1 (payload_place + row_length s.n));
            };
            further = omega arith;
          })

      placed_call : IfOk (call_at file s) (Onward file s)
      unfolding call_at
      placed_call =
          passed (Onward file s) (complete s && (eqb (payload_length file s.at) call_length && leb (byte file (s.at + 4)) 1)) _ _
          (λ t.
          let one = leb-true 1 s.n (and_left _ _ (and_left (complete s) _ t)) in
          let q = eqb-true (payload_length file s.at) call_length (and_left _ _ (and_right (complete s) _ t)) in
          record {
            placed = record {
              small = p.small;
              few = p.few;
              inside = omega (arith, q, whole);
              headless = λ z. absurd (omega (arith, z, one));
              place = λ l. omega (arith, p.place l);
            };
            further = omega arith;
          })

      placed_record : IfOk (record_at file s) (Onward file s)
      unfolding record_at
      placed_record =
          let P = λ (r : Result Scan FaultKind). IfOk r (Onward file s) in
          cond_cases P (eqb (kind file s.at) 1) _ _ (λ _. placed_head)
          (λ _. cond_cases P (eqb (kind file s.at) 2) _ _ (λ _. placed_passage)
          (λ _. cond_cases P (eqb (kind file s.at) 3) _ _ (λ _. placed_row)
          (λ _. cond_cases P (eqb (kind file s.at) 4) _ _ (λ _. placed_call)
          (λ _. tt))))

    pub placed_advance : IfOk (advance file s) (Onward file s)
    unfolding advance
    placed_advance =
        passed (Onward file s) (leb 4 (length file - s.at)) _ _
        (λ t. passed (Onward file s) (leb (payload_length file s.at) (length file - s.at - 4)) _ _
        (λ u. placed_record (omega (arith, leb-true 4 (length file - s.at) t, leb-true (payload_length file s.at) (length file - s.at - 4) u))))

-- the scan after i turns: placed, and i bytes further where there are so many; or a fault within the file
abbrev pub turned : List ℕ → ℕ → Result Scan Fault
turned file i = fold (λ _ r. continued file r) (Ok begun) i

record Going (file : List ℕ) (i : ℕ) (s : Scan) : Type 0 where
  placed : Placed file s
  far : min i (length file) ≤ s.at

abbrev Held : List ℕ → ℕ → Result Scan Fault → Type 0
Held file i r = MatchResult r (Going file i) (λ (fault : Fault). fault.at ≤ length file)

module _ (file : List ℕ) where
  held_more : (i : ℕ) (r : Result Scan Fault) → Held file i r → Held file (suc i) (continued file r)
  held_more i (Err fault) h = h
  held_more i (Ok s) h =
      cond_cases (Held file (suc i)) (leb (length file) s.at) _ _ (λ t. record { placed = h.placed; far = omega (arith, leb-true (length file) s.at t) })
      (λ f. go (advance file s) (placed_advance file s h.placed))
    where
      go : (r : Result Scan FaultKind) → IfOk r (Onward file s) → Held file (suc i) (located s.at r)
      go (Ok t) o = record { placed = o.placed; far = omega (arith, h.far, o.further) }
      go (Err why) o = h.placed.inside

  held_after : (i : ℕ) → Held file i (turned file i)
  unfolding fold
  held_after zero = record { placed = placed_begun file; far = omega arith }
  held_after (suc i) = held_more i (turned file i) (held_after i)

-- what the loop knows of its scan: so many records without fault came before it, no more than bytes
pub record Reached (file : List ℕ) (s : Scan) : Type 0 where
  pub turns : ℕ
  pub few : turns ≤ s.at
  pub after : Ok s ≡ turned file turns

pub reached_begun : (file : List ℕ) → Reached file begun
reached_begun file = record { turns = 0; few = omega arith; after = sym (fold_zero (λ _ r. continued file r) (Ok begun)) }

module _ (file : List ℕ) (s : Scan) (reached : Reached file s) where
  pub placed : Placed file s
  placed = (MatchResult-at_ok (Going file reached.turns) _ s (sym reached.after) (held_after file reached.turns)).placed

  module _ (left : s.at < length file) where
    turn : turned file (reached.turns + 1) ≡ located s.at (advance file s)
    turn = fold_more (λ _ r. continued file r) (Ok begun) reached.turns ∙ rw (← reached.after, lt-leb (length file) s.at left)

    pub onward : (t : Scan) → Ok t ≡ advance file s → Onward file s t
    onward t e = IfOk-at_ok (Onward file s) (sym e) (placed_advance file s placed)

    pub reached_more : (t : Scan) → Ok t ≡ advance file s → Reached file t
    reached_more t e = record { turns = reached.turns + 1; few = omega (arith, reached.few, (onward t e).further); after = sym (turn ∙ rw (← e)) }

    pub scan_fault : (kind : FaultKind) → Err kind ≡ advance file s → Err (record { kind = kind; at = s.at }) ≡ scanned file
    unfolding scanned
    scan_fault kind e =
        let here : turned file (reached.turns + 1) ≡ Err (record { kind = kind; at = s.at }) = turn ∙ rw (← e) in
        ap ended (sym (fold_still (λ _ r. continued file r) (Ok begun) (reached.turns + 1) (length file) (omega (arith, reached.few)) (λ _. rw here) ∙ here))

  module _ (done : length file ≤ s.at) where
    last : ended (Ok s) ≡ scanned file
    unfolding scanned
    last =
        ap ended (sym (fold_still (λ _ r. continued file r) (Ok begun) reached.turns (length file) (omega (arith, reached.few, placed.inside)) (λ _. rw (← reached.after, le-leb (length file) s.at done)) ∙ sym reached.after))

    pub scan_short : complete s ≡ false → Err (record { kind = CutShort; at = s.at }) ≡ scanned file
    scan_short e = rw e at last

    pub scan_whole : complete s ≡ true → Ok s ≡ scanned file
    scan_whole e = rw e at last

-- what holds at the start, and of what each record without fault leaves, holds of a scan that ended well
module _ (file : List ℕ) (P : Scan → Type 0) (start : P begun) (step : (s : Scan) → Placed file s → P s → IfOk (advance file s) P) where
  kept_more : (i : ℕ) (r : Result Scan Fault) → Held file i r → IfOk r P → IfOk (continued file r) P
  kept_more i (Err fault) h p = tt
  kept_more i (Ok s) h p = cond_cases (λ (r : Result Scan Fault). IfOk r P) (leb (length file) s.at) _ _ (λ _. p) (λ _. go (advance file s) (step s h.placed p))
    where
      go : (r : Result Scan FaultKind) → IfOk r P → IfOk (located s.at r) P
      go (Ok t) q = q
      go (Err why) q = tt

  kept_after : (i : ℕ) → IfOk (turned file i) P
  unfolding fold
  kept_after zero = start
  kept_after (suc i) = kept_more i (turned file i) (held_after file i) (kept_after i)

  pub scan_kept : (s : Scan) → Ok s ≡ scanned file → P s
  unfolding scanned
  scan_kept s e = go (turned file (length file)) (kept_after (length file)) e
    where
      go : (r : Result Scan Fault) → IfOk r P → Ok s ≡ ended r → P s
      go (Err fault) p e = cc
      go (Ok t) p e = IfOk-at_ok P (sym e) (provided_either (λ (r : Result Scan Fault). IfOk r P) (complete t) _ _ tt (λ _. p))

-- in a file that is not too long there are fewer than 65,536 calls
pub calls_few : (file : List ℕ) (s : Scan) → Placed file s → length file ≤ 65536 → s.calls < 65536
calls_few file s p l = go (leb 1 s.n) refl
  where
    go : (t : Bool) → leb 1 s.n ≡ t → s.calls < 65536
    go true e = omega (arith, p.place (leb-true 1 s.n e), p.inside)
    go false e = let z : s.n ≡ 0 = omega (arith, leb-false 1 s.n e) in omega (arith, (p.headless z).1.1)

-- a scan that ended well: the head and all rows are there, and the counts fill the file
pub record Scanned (file : List ℕ) (s : Scan) : Type 0 where
  pub placed : Placed file s
  pub whole : complete s ≡ true
  pub small : s.n ≤ 64
  pub few : s.passages ≤ 512
  pub filled : call_place s.passages s.n s.calls ≡ length file

module _ (file : List ℕ) where
  scanned_held : MatchResult (scanned file) (Scanned file) (λ (fault : Fault). fault.at ≤ length file)
  unfolding scanned
  scanned_held = go (turned file (length file)) (held_after file (length file))
    where
      go : (r : Result Scan Fault) → Held file (length file) r → MatchResult (ended r) (Scanned file) (λ (fault : Fault). fault.at ≤ length file)
      go (Err fault) h = h
      go (Ok s) h =
          provided_either (λ r. MatchResult r (Scanned file) (λ (fault : Fault). fault.at ≤ length file)) (complete s) _ _ h.placed.inside
          (λ t.
          let q : s.rows ≡ s.n = eqb-true s.rows s.n (and_right (leb 1 s.n) _ t) in
          let stands : s.at ≡ row_place s.passages s.n s.rows + (payload_place + call_length) * s.calls = h.placed.place (leb-true 1 s.n (and_left _ _ t)) in
          record { placed = h.placed; whole = t; small = h.placed.small; few = h.placed.few; filled = omega (arith, rw q at stands, h.far, h.placed.inside) })

  pub scanned_is : (s : Scan) → Ok s ≡ scanned file → Scanned file s
  scanned_is s e = MatchResult-at_ok (Scanned file) _ s (sym e) scanned_held

-- slices that are roomy are long enough
pub record Roomy (s : Scan) (passages estimates calls : ℕ) : Type 0 where
  pub passages_in : 3 * s.passages ≤ passages
  pub estimates_in : s.n * s.n ≤ estimates
  pub calls_in : s.calls ≤ calls

pub roomy : (s : Scan) (passages estimates calls : ℕ) → roomy_for s passages estimates calls ≡ true → Roomy s passages estimates calls
unfolding roomy_for
roomy s passages estimates calls e =
    let f = and_right (leb (3 * s.passages) passages) _ e in
    record {
      passages_in = leb-true (3 * s.passages) passages (and_left _ _ e);
      estimates_in = leb-true (s.n * s.n) estimates (and_left _ _ f);
      calls_in = leb-true s.calls calls (and_right (leb (s.n * s.n) estimates) _ f);
    }

-- reading, by what the scan and the slices come to
module _ (file passages estimates calls : List ℕ) where
  pub read_long : 65536 < length file → read_of file passages estimates calls ≡ file_fault (record { kind = TooLarge; at = 65536 }) passages estimates calls
  unfolding read_of
  read_long l = rw (lt-leb (length file) 65536 l)

  module _ (short : length file ≤ 65536) where
    pub read_fault : (fault : Fault) → Err fault ≡ scanned file → read_of file passages estimates calls ≡ file_fault fault passages estimates calls
    unfolding read_of
    read_fault fault e = rw (le-leb (length file) 65536 short, ← e)

    module _ (s : Scan) (e : Ok s ≡ scanned file) where
      pub read_short : roomy_for s (length passages) (length estimates) (length calls) ≡ false → read_of file passages estimates calls ≡ file_fault (record { kind = ShortSlice; at = 0 }) passages estimates calls
      unfolding read_of
      read_short r = rw (le-leb (length file) 65536 short, ← e, r)

      pub read_all : roomy_for s (length passages) (length estimates) (length calls) ≡ true → read_of file passages estimates calls ≡ file_read file s passages estimates calls
      unfolding read_of
      read_all r = rw (le-leb (length file) 65536 short, ← e, r)

  -- what holds of each fault, and of what is read after a scan that ended well to slices with room, holds of reading
  pub read_either : (P : FileReading → Type 0) → ((fault : Fault) → fault.at ≤ 65536 → P (file_fault fault passages estimates calls))
      → (length file ≤ 65536 → (s : Scan) → Scanned file s → Roomy s (length passages) (length estimates) (length calls) → P (file_read file s passages estimates calls)) → P (read_of file passages estimates calls)
  unfolding read_of
  read_either P faulty whole =
      provided_either P (leb (length file) 65536) _ _ (faulty _ (omega arith)) (λ t. go (leb-true (length file) 65536 t) (scanned file) (scanned_held file))
    where
      go : length file ≤ 65536 → (r : Result Scan Fault) → MatchResult r (Scanned file) (λ (fault : Fault). fault.at ≤ length file) → P (reading_of r file passages estimates calls)
      go short (Err fault) h = faulty fault (omega arith)
      go short (Ok s) h = provided_either P (roomy_for s (length passages) (length estimates) (length calls)) _ _ (faulty _ (omega arith)) (λ t. whole short s h (roomy s _ _ _ t))

-- what reading replies is small: fields of two bytes, counts that a file has room for, an offset no further than a file is long
pub record Small (held : Contents) : Type 0 where
  pub states : held.n ≤ 64
  pub workers : held.k < 65536
  pub start_in : held.start < 65536
  pub goal_in : held.goal < 65536
  pub pull_in : held.pull < 65536
  pub excess_in : held.excess < 65536
  pub passages_in : held.passages ≤ 512
  pub calls_in : held.calls < 65536

abbrev pub SmallOutcome : Result Contents Fault → Type 0
SmallOutcome outcome = MatchResult outcome Small (λ (fault : Fault). fault.at ≤ 65536)

pub read_small : (file passages estimates calls : List ℕ) → ((i : ℕ) → byte file i < 256) → SmallOutcome (read_of file passages estimates calls).outcome
read_small file passages estimates calls octet =
    let word_small : (at : ℕ) → word file at < 65536 = λ at. omega (arith, word_is file at, octet at, octet (at + 1)) in
    read_either file passages estimates calls (λ (r : FileReading). SmallOutcome r.outcome) (λ fault l. l)
    (λ short s whole room. record {
      states = whole.small;
      workers = word_small 6;
      start_in = word_small 8;
      goal_in = word_small 10;
      pull_in = word_small 12;
      excess_in = word_small 14;
      passages_in = whole.few;
      calls_in = calls_few file s whole.placed short;
    })
