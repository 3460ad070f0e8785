-- "Task file and deskrun", order 6's writing and order 3's maps: file faults with their offsets, what is read and printed, what is written and what can't be, and the refusals of a map and what is drawn.
use Rattle.std.specs.Prelude.{◌≡◌, refl, true, List, [], ◌∷◌, ◌++◌, map, ℕ, ◌+◌, ◌*◌, ◌≤◌, length, replicate, take as front, drop, leb, Result, Ok, Err}
use Rattle.std.proofs.Common.{ap, ◌∙◌}
use Prim.Native.String.{String}
use native.Mathlib.Omega.{arith}
use Rattle.std.proofs.Math.ListN.{length-replicate}
use Rattle.std.proofs.lemmas.List.{get_or-replicate}
use borrow.Author.Tests.{lt-leb}
use Rattle.laws.specs.Truth.{provided}
use Rattle.taskfile.specs.declared.Head.{Head}
use Rattle.taskfile.specs.declared.Contents.{Contents}
use Rattle.taskfile.specs.declared.Scan.{Scan}
use Rattle.taskfile.specs.declared.faults.Fault.{Fault}
use Rattle.taskfile.specs.declared.faults.Unwritable.{Unwritable}
use Rattle.taskfile.specs.declared.faults.Unwritable.TheVariants.{FileTooLarge, ShortBuffer}
use Rattle.taskfile.specs.Faults.{fault_number, unwritable_number}
use Rattle.taskfile.specs.Bytes.{beyond}
use Rattle.taskfile.specs.Scan.{advance}
use Rattle.taskfile.specs.Contents.{read_of}
use Rattle.taskfile.specs.Writing.{file_of, FileWriting, unwritten, write_of}
use Rattle.taskfile.specs.CarriedLaws.{Carried, carried_is}
use Rattle.taskfile.specs.WritingLaws.{file_length}
use Rattle.gridmap.specs.declared.Survey.{Survey}
use Rattle.gridmap.specs.Faults.{map_fault_number}
use Rattle.gridmap.specs.Map.{map_of, count_right}
use Rattle.gridmap.specs.Reading.{read_map}
use Rattle.report.specs.Text.{printed}
use Rattle.runs.specs.Definitions.{definitions}
use Rattle.runs.specs.Tasks.{lines}

-- an answer whose error is said by its number, as the documents say it
abbrev by_number : {A E N : Type 0} → (E → N) → Result A E → Result A N
by_number number (Ok a) = Ok a
by_number number (Err e) = Err (number e)

-- a fault by its number and offset, and a refusal to write by its number
abbrev numbered : Result Contents Fault → Result Contents (ℕ × ℕ)
numbered r = by_number (λ (fault : Fault). (fault_number fault.kind, fault.at)) r

abbrev replied : FileWriting → Result ℕ ℕ × List ℕ
replied w = (by_number unwritable_number w.reply, w.buffer)

-- a head (length 12, kind 1) with these six numbers, each below 256; and one of a task of one state. What follows it begins at 16.
abbrev head : ℕ → ℕ → ℕ → ℕ → ℕ → ℕ → List ℕ
head n k start goal pull excess = 12 ∷ 0 ∷ 1 ∷ 0 ∷ n ∷ 0 ∷ k ∷ 0 ∷ start ∷ 0 ∷ goal ∷ 0 ∷ pull ∷ 0 ∷ excess ∷ 0 ∷ []

abbrev one : List ℕ
one = head 1 1 0 0 100 100

-- a passage (length 8, kind 2) 0→0; its cost is 1 + 2 × 256 + 3 × 65,536 + 4 × 16,777,216, which is 67,305,985
abbrev passage : List ℕ
passage = 8 ∷ 0 ∷ 2 ∷ 0 ∷ 0 ∷ 0 ∷ 0 ∷ 0 ∷ 1 ∷ 2 ∷ 3 ∷ 4 ∷ []

-- the row of this number (length 2 + 4 × n, kind 3), with n estimates 0
abbrev row : ℕ → ℕ → List ℕ
row n number = (2 + 4 * n) ∷ 0 ∷ 3 ∷ 0 ∷ number ∷ 0 ∷ replicate (4 * n) 0

-- a call (length 2, kind 4): which, and of which worker
abbrev call : ℕ → ℕ → List ℕ
call which worker = 2 ∷ 0 ∷ 4 ∷ 0 ∷ which ∷ worker ∷ []

-- a record that is a byte too long, and says so
abbrev longer : List ℕ → List ℕ
longer [] = []
longer (length ∷ rest) = (length + 1) ∷ (rest ++ (0 ∷ []))

-- a file without fault, of 50 bytes: one state, a passage, a Take and a Bring of worker 3
abbrev whole : List ℕ
whole = one ++ (passage ++ (row 1 0 ++ (call 0 3 ++ call 1 3)))

-- reading a file into slices of so many places with a 9 in each: the outcome, and the slices
abbrev read : List ℕ → ℕ → ℕ → ℕ → Result Contents (ℕ × ℕ) × List ℕ × List ℕ × List ℕ
read file passages estimates calls =
    let r = read_of file (replicate passages 9) (replicate estimates 9) (replicate calls 9) in
    (numbered r.outcome, r.passages, r.estimates, r.calls)

-- the outcome alone, with room enough
abbrev outcome : List ℕ → Result Contents (ℕ × ℕ)
outcome file = numbered (read_of file (replicate 4 9) (replicate 2 9) (replicate 3 9)).outcome

-- how a scan stands after a passage, where so many came before it: it goes on, or the fault's number
abbrev status : ℕ → Result Scan ℕ
status passages = by_number fault_number (advance (one ++ passage) (record { at = 16; n = 1; passages = passages; rows = 0; calls = 0 }))

-- a task's six numbers, and those of `one`
abbrev six : ℕ → ℕ → ℕ → ℕ → ℕ → ℕ → Head
six n k start goal pull excess = record { n = n; k = k; start = start; goal = goal; pull = pull; excess = excess }

abbrev lone : Head
lone = six 1 1 0 0 100 100

-- writing what `whole` holds to a buffer of so many places with a 9 in each: the reply, and the buffer
abbrev write : ℕ → Result ℕ ℕ × List ℕ
write places = replied (write_of lone (0 ∷ 0 ∷ 67305985 ∷ []) (0 ∷ []) (3 ∷ 65539 ∷ []) (replicate places 9))

-- the reply alone, where the buffer has no place: 26 unless something else stands against it.
abbrev filed : Head → List ℕ → List ℕ → List ℕ → Result ℕ ℕ
filed t passages estimates calls = (replied (write_of t passages estimates calls [])).0

-- a task of three states with so many passages and events, where all of these and the estimates are 0: writing it to a buffer of one place, and how long its file is
abbrev three : Head
three = six 3 1 0 0 100 100

abbrev filling : ℕ → ℕ → FileWriting
filling passages calls = write_of three (replicate (3 * passages) 0) (replicate 9 0) (replicate calls 0) (9 ∷ [])

abbrev filling_length : ℕ → ℕ → ℕ
filling_length passages calls = 16 + 12 * passages + 3 * 18 + 6 * calls

-- To compute 65,536 bytes would take too long, so this comes from the laws of what a file carries and how long it is.
module _ (passages calls : ℕ) (few : passages ≤ 512) where
  filling_carried : Carried three (replicate (3 * passages) 0) (replicate 9 0) (replicate calls 0)
  unfolding beyond
  filling_carried =
      let thirds = length-replicate {A = ℕ} (3 * passages) 0 in
      record {
        some = omega arith;
        small = omega arith;
        thirds = omega arith;
        few = omega arith;
        square = refl;
        head = (omega arith, omega arith, omega arith, omega arith, omega arith);
        ends = λ i l. (rw (get_or-replicate {A = ℕ} (3 * passages) (3 * i) 0 0 (omega arith)) (omega arith), rw (get_or-replicate {A = ℕ} (3 * passages) (3 * i + 1) 0 0 (omega arith)) (omega arith));
        call = λ i l. rw (get_or-replicate {A = ℕ} calls i 0 0 (omega (arith, length-replicate {A = ℕ} calls 0))) (omega arith, omega arith);
      }

  filling_length_lem : length (file_of three (replicate (3 * passages) 0) (replicate 9 0) (replicate calls 0)) ≡ filling_length passages calls
  filling_length_lem = file_length _ _ _ _ ∙ omega (arith, length-replicate {A = ℕ} (3 * passages) 0, length-replicate {A = ℕ} calls 0)

  filling_is : filling passages calls ≡ provided (leb (filling_length passages calls) 65536) (unwritten FileTooLarge (9 ∷ [])) (unwritten ShortBuffer (9 ∷ []))
  unfolding write_of
  filling_is = rw (carried_is _ _ _ _ filling_carried, filling_length_lem, lt-leb (filling_length passages calls) 1 (omega arith))

-- a map's text by its second and third line, and its rows
abbrev drawing : String → String → List String → List ℕ
drawing height width rows = lines ("type octile" ∷ height ∷ width ∷ "map" ∷ rows)

-- what is replied to it, with slices of so many places
abbrev survey : ℕ → ℕ → List ℕ → Result Survey ℕ
survey passages estimates text = by_number map_fault_number (read_map text (replicate passages 9) (replicate estimates 9)).reply

-- two rows of two open cells
abbrev square : List ℕ
square = drawing "height 2" "width 2" (".." ∷ ".G" ∷ [])

pub record Files : Type 0 where
  -- "n, k, start, goal, W, E, two bytes each"
  pub file_head : outcome (head 1 2 3 4 5 6 ++ row 1 0) ≡ Ok (record { n = 1; k = 2; start = 3; goal = 4; pull = 5; excess = 6; passages = 0; calls = 0 })
  -- "from, to (two bytes each), cost (four)"; "call (one byte, 0 Take, 1 Bring), worker (one byte)"; "places past what is read stay". A call is 65,536 × call + worker.
  pub file_slices : read whole 4 2 3 ≡
      (Ok (record { n = 1; k = 1; start = 0; goal = 0; pull = 100; excess = 100; passages = 1; calls = 2 }), 0 ∷ 0 ∷ 67305985 ∷ 9 ∷ [], 0 ∷ 9 ∷ [], 3 ∷ 65539 ∷ 9 ∷ [])
  -- 21 "fewer bytes left than length and kind take, or than the length then asks for", of an unknown kind too, "or the file ends before the head and all rows are there (offset: file length)"
  pub file_21 :
      map outcome ((one ++ (0 ∷ 0 ∷ 5 ∷ [])) ∷ (one ++ front 11 passage) ∷ (one ++ (1 ∷ 0 ∷ 5 ∷ 0 ∷ [])) ∷ [] ∷ one ∷ []) ≡
      Err (21, 16) ∷ Err (21, 16) ∷ Err (21, 16) ∷ Err (21, 0) ∷ Err (21, 16) ∷ []
  -- 22 "unknown kind"
  pub file_22_kind : map outcome ((one ++ (0 ∷ 0 ∷ 0 ∷ 0 ∷ [])) ∷ (one ++ (0 ∷ 0 ∷ 5 ∷ 0 ∷ [])) ∷ []) ≡ Err (22, 16) ∷ Err (22, 16) ∷ []
  -- "payload length wrong for its kind", of a head whose n is 0 too
  pub file_22_length :
      map outcome (longer (head 0 1 0 0 100 100) ∷ (one ++ longer passage) ∷ (one ++ longer (row 1 0)) ∷ (one ++ (row 1 0 ++ longer (call 0 0))) ∷ []) ≡
      Err (22, 0) ∷ Err (22, 16) ∷ Err (22, 16) ∷ Err (22, 26) ∷ []
  -- "kind or row out of order (a kind 4 before the last row too)": a passage, a row, a call first; two heads; a passage after a row; row 1 first; a row too many; a call before the row
  pub file_22_first : map outcome (passage ∷ row 1 0 ∷ call 0 0 ∷ []) ≡ Err (22, 0) ∷ Err (22, 0) ∷ Err (22, 0) ∷ []
  pub file_22_order :
      map outcome ((one ++ one) ∷ (one ++ (row 1 0 ++ passage)) ∷ (one ++ row 1 1) ∷ (one ++ (row 1 0 ++ row 1 1)) ∷ (one ++ call 0 0) ∷ []) ≡
      Err (22, 16) ∷ Err (22, 26) ∷ Err (22, 16) ∷ Err (22, 26) ∷ Err (22, 16) ∷ []
  -- "call above 1"
  pub file_22_call : outcome (one ++ (row 1 0 ++ call 2 0)) ≡ Err (22, 26)
  -- 23 "n not 1 to 64, or a 513th passage": where n is right, the rows are missed
  pub file_23_n : map (λ n. outcome (head n 1 0 0 100 100)) (0 ∷ 1 ∷ 64 ∷ 65 ∷ []) ≡ Err (23, 0) ∷ Err (21, 16) ∷ Err (21, 16) ∷ Err (23, 0) ∷ []
  pub file_23_passages : map status (511 ∷ 512 ∷ []) ≡ Ok (record { at = 28; n = 1; passages = 512; rows = 0; calls = 0 }) ∷ Err 23 ∷ []
  -- "A file over 65,536 bytes is 23 at 65,536 before all else."
  pub file_23_bytes : outcome (replicate 65537 0) ≡ Err (23, 65536)
  -- 27 "after all others (offset 0): a lent slice too short for the passages, estimates or calls read. A fault writes nothing"
  pub file_27 :
      read whole 2 2 3 ∷ read whole 4 0 3 ∷ read whole 4 2 1 ∷ read (whole ++ (0 ∷ [])) 0 0 0 ∷ [] ≡
      (Err (27, 0), replicate 2 9, replicate 2 9, replicate 3 9) ∷ (Err (27, 0), replicate 4 9, [], replicate 3 9) ∷ (Err (27, 0), replicate 4 9, replicate 2 9, 9 ∷ []) ∷ (Err (21, 50), [], [], []) ∷ []
  -- Order 6: "Write a task and a list of events as a task file into a lent buffer; the bytes after it stay."
  pub write_whole : write 50 ∷ write 52 ∷ [] ≡ (Ok 50, whole) ∷ (Ok 50, whole ++ (9 ∷ 9 ∷ [])) ∷ []
  -- "n, k, start, goal, W, E, two bytes each"; "row number (two), then n estimates of four bytes; rows 0 to n − 1 in order": h(a,b) from a × n + b
  pub write_rows : (write_of (six 2 1 2 3 4 5) [] (6 ∷ 7 ∷ 8 ∷ 9 ∷ []) [] (replicate 44 0)).buffer ≡
      head 2 1 2 3 4 5 ++ (
      10 ∷ 0 ∷ 3 ∷ 0 ∷ 0 ∷ 0 ∷ 6 ∷ 0 ∷ 0 ∷ 0 ∷ 7 ∷ 0 ∷ 0 ∷ 0 ∷
      10 ∷ 0 ∷ 3 ∷ 0 ∷ 1 ∷ 0 ∷ 8 ∷ 0 ∷ 0 ∷ 0 ∷ 9 ∷ 0 ∷ 0 ∷ 0 ∷ [])
  -- "Reading what was written gives the same task and events"
  pub write_read : read (front 50 (write 52).1) 4 2 3 ≡
      (Ok (record { n = 1; k = 1; start = 0; goal = 0; pull = 100; excess = 100; passages = 1; calls = 2 }), 0 ∷ 0 ∷ 67305985 ∷ 9 ∷ [], 0 ∷ 9 ∷ [], 3 ∷ 65539 ∷ 9 ∷ [])
  -- 24 "n not 1 to 64": with n × n estimates
  pub write_24_n : map (λ n. filed (six n 1 0 0 100 100) [] (replicate (n * n) 0) []) (0 ∷ 1 ∷ 64 ∷ 65 ∷ []) ≡ Err 24 ∷ Err 26 ∷ Err 26 ∷ Err 24 ∷ []
  -- "passage slice not a multiple of 3"
  pub write_24_thirds : map (λ long. filed lone (replicate long 0) (0 ∷ []) []) (2 ∷ 3 ∷ 4 ∷ []) ≡ Err 24 ∷ Err 26 ∷ Err 24 ∷ []
  -- "or above 512 passages"
  pub write_24_512 : replied (filling 512 0) ≡ (Err 26, 9 ∷ [])
  pub write_24_513 : replied (filling 513 0) ≡ (Err 24, 9 ∷ [])
  -- "estimate slice not n × n"
  pub write_24_estimates : map (λ long. filed (six 2 1 0 0 100 100) [] (replicate long 0) []) (3 ∷ 4 ∷ 5 ∷ []) ≡ Err 24 ∷ Err 26 ∷ Err 24 ∷ []
  -- "a field above its bytes": k, start, goal, W and E
  pub write_24_head :
      map (λ t. filed t [] (0 ∷ []) []) (
      six 1 65535 65535 65535 65535 65535 ∷
      six 1 65536 0 0 100 100 ∷
      six 1 1 65536 0 100 100 ∷
      six 1 1 0 65536 100 100 ∷
      six 1 1 0 0 65536 100 ∷
      six 1 1 0 0 100 65536 ∷ []) ≡
      Err 26 ∷ replicate 5 (Err 24)
  -- a passage's ends; any cost fits its four bytes
  pub write_24_ends :
      map (λ passages. filed lone passages (0 ∷ []) []) (
      (65535 ∷ 65535 ∷ 4294967295 ∷ []) ∷
      (65536 ∷ 0 ∷ 0 ∷ []) ∷
      (0 ∷ 65536 ∷ 0 ∷ []) ∷
      (0 ∷ 0 ∷ 0 ∷ 65536 ∷ 0 ∷ 0 ∷ []) ∷ []) ≡
      Err 26 ∷ replicate 3 (Err 24)
  -- and a worker, of a Take and of a Bring: 255 and 256
  pub write_24_worker :
      map (λ event. filed lone [] (0 ∷ []) (event ∷ [])) (255 ∷ 256 ∷ 65791 ∷ 65792 ∷ []) ≡
      Err 26 ∷ Err 24 ∷ Err 26 ∷ Err 24 ∷ []
  -- "an event neither Take nor Bring": a Bring, and then one with a call of 2 behind it
  pub write_24_event : map (filed lone [] (0 ∷ [])) ((65536 ∷ []) ∷ (65536 ∷ 131072 ∷ []) ∷ []) ≡ Err 26 ∷ Err 24 ∷ []
  -- "Refusals, in order": 24, though the file would have 65,542 bytes, and the buffer has no place
  pub write_24_first : filed (six 3 65536 0 0 100 100) [] (replicate 9 0) (replicate 10912 0) ≡ Err 24
  -- "25 a file above 65,536 bytes", before 26: a file of 65,536 bytes, and one of 65,542
  pub write_25_not : replied (filling 0 10911) ≡ (Err 26, 9 ∷ [])
  pub write_25 : replied (filling 0 10912) ≡ (Err 25, 9 ∷ [])
  -- "26 buffer too short". A refusal leaves the buffer, also one that is long enough.
  pub write_26 : write 49 ≡ (Err 26, replicate 49 9)
  pub write_nothing : (write_of lone [] [] [] (replicate 26 9)).buffer ≡ replicate 26 9
  -- "a word, the worker, a number where there is one (`took` state, `brought` count, `found` cost, `refused` number, `wait` and `nopath` none). After `found` comes a `path` line with the states."
  pub text_found : printed (one ++ (row 1 0 ++ (call 0 0 ++ call 1 200))) ≡ lines ("found 0 0" ∷ "path 0" ∷ "refused 200 9" ∷ [])
  pub text_nopath : printed (head 2 1 0 1 100 100 ++ (row 2 0 ++ (row 2 1 ++ (call 0 0 ++ (call 1 0 ++ call 0 0))))) ≡ lines ("took 0 0" ∷ "brought 0 0" ∷ "nopath 0" ∷ [])
  -- "A file fault prints only `file`, number, offset; a refused opening only `opening`, number."
  pub text_fault : printed (one ++ (row 1 0 ++ (call 0 0 ++ call 2 0))) ≡ lines ("file 22 32" ∷ [])
  pub text_opening : printed (head 1 1 0 0 101 100 ++ (row 1 0 ++ call 0 0)) ≡ lines ("opening 3" ∷ [])
  -- Order 3: "Refusals, in order: 31 header": "a number from 1 to 256 without leading zeros", "one blank". The rows are wrong too.
  pub map_31 :
      map (survey 0 0) (
      lines ("type tile" ∷ "height 1" ∷ "width 1" ∷ "map" ∷ "x" ∷ []) ∷
      drawing "height " "width 1" ("x" ∷ []) ∷
      drawing "height 0" "width 1" ("x" ∷ []) ∷
      drawing "height 257" "width 1" ("x" ∷ []) ∷
      drawing "height 1" "width 01" ("x" ∷ []) ∷
      drawing "height 1" "width  1" ("x" ∷ []) ∷ []) ≡
      replicate 6 (Err 31)
  -- "32 row length, row count or character": no cell is open, and the slices are too short
  pub map_32 :
      map (survey 0 0) (
      drawing "height 2" "width 2" ("@@" ∷ "@" ∷ []) ∷
      drawing "height 2" "width 2" ("@@" ∷ []) ∷
      drawing "height 2" "width 2" ("@@" ∷ "@@" ∷ "@@" ∷ []) ∷
      drawing "height 2" "width 2" ("@@" ∷ "@x" ∷ []) ∷ []) ≡
      replicate 4 (Err 32)
  -- "33 no open cell or more than 256": 17 rows of 16; 16 rows of 16 aren't too many
  pub map_33 :
      map (survey 0 0) (drawing "height 1" "width 3" ("@OT" ∷ []) ∷ drawing "height 17" "width 16" (replicate 17 "................") ∷ []) ≡ Err 33 ∷ Err 33 ∷ []
  pub map_256 : count_right (map_of (drawing "height 16" "width 16" (replicate 16 "................"))) ≡ true
  -- "34 a lent slice too short"; "Reply: the counts of cells and passages"
  pub map_34 : survey 35 16 square ∷ survey 36 15 square ∷ survey 36 16 square ∷ [] ≡ Err 34 ∷ Err 34 ∷ Ok (record { cells = 4; passages = 12 }) ∷ []
  -- "in the order N (the row above), NE, E, SE, S, SW, W, NW, cost 1,000 straight and 1,414 diagonal": the middle cell of nine is state 4, and 16 passages come before its own
  pub map_order : front 24 (drop 48 (read_map (drawing "height 3" "width 3" (replicate 3 "...")) (replicate 120 0) (replicate 81 0)).passages) ≡
      4 ∷ 1 ∷ 1000 ∷
      4 ∷ 2 ∷ 1414 ∷
      4 ∷ 5 ∷ 1000 ∷
      4 ∷ 8 ∷ 1414 ∷
      4 ∷ 7 ∷ 1000 ∷
      4 ∷ 6 ∷ 1414 ∷
      4 ∷ 3 ∷ 1000 ∷
      4 ∷ 0 ∷ 1414 ∷ []
  -- "a diagonal only where both cells beside it are open"; "places past them stay"
  pub map_corner : (read_map (drawing "height 2" "width 2" (".@" ∷ ".." ∷ [])) (replicate 13 9) (replicate 9 9)).passages ≡
      0 ∷ 1 ∷ 1000 ∷
      1 ∷ 0 ∷ 1000 ∷
      1 ∷ 2 ∷ 1000 ∷
      2 ∷ 1 ∷ 1000 ∷ 9 ∷ []
  -- "Estimates are 1,000 × the larger plus 414 × the smaller of the two coordinate gaps."
  pub map_estimates : (read_map (drawing "height 2" "width 3" (".@@" ∷ "@@." ∷ [])) [] (replicate 5 9)).estimates ≡ 0 ∷ 2414 ∷ 2414 ∷ 0 ∷ 9 ∷ []

pub files : Files
unfolding definitions
files = record {
  file_head = refl;
  file_slices = refl;
  file_21 = refl;
  file_22_kind = refl;
  file_22_length = refl;
  file_22_first = refl;
  file_22_order = refl;
  file_22_call = refl;
  file_23_n = refl;
  file_23_passages = refl;
  file_23_bytes = refl;
  file_27 = refl;
  write_whole = refl;
  write_rows = refl;
  write_read = refl;
  write_24_n = refl;
  write_24_thirds = refl;
  write_24_512 = ap replied (filling_is 512 0 (omega arith));
  write_24_513 = refl;
  write_24_estimates = refl;
  write_24_head = refl;
  write_24_ends = refl;
  write_24_worker = refl;
  write_24_event = refl;
  write_24_first = refl;
  write_25_not = ap replied (filling_is 0 10911 (omega arith));
  write_25 = ap replied (filling_is 0 10912 (omega arith));
  write_26 = refl;
  write_nothing = refl;
  text_found = refl;
  text_nopath = refl;
  text_fault = refl;
  text_opening = refl;
  map_31 = refl;
  map_32 = refl;
  map_33 = refl;
  map_256 = refl;
  map_34 = refl;
  map_order = refl;
  map_corner = refl;
  map_estimates = refl;
}
