-- Order 8, "Keep the key": which key is stored for a state, which call sets it, and where a stored key is refused with 8.
-- Beside a row stand its keys on paper, 100 × label + W × h(s, goal).
use Rattle.std.specs.Prelude.{◌≡◌, refl, List, [], ◌∷◌, map, ℕ, ◌+◌, ◌*◌, replicate, take as front}
use Rattle.checks.specs.Opening.{Task, task}
use Rattle.desk.specs.declared.Machine.{Machine}
use Rattle.desk.specs.declared.Reply.{Reply}
use Rattle.desk.specs.declared.Reply.TheVariants.{Took, Wait, Read, Done, Cut}
use Rattle.desk.specs.declared.Answer.{Answer}
use Rattle.desk.specs.declared.Counted.{Counted}
use Rattle.desk.specs.Machine.{with_phase, with_label, with_via, with_key}
use Rattle.desk.specs.Reply.{answer}
use Rattle.desk.specs.Limited.{limited_of}
use Rattle.desk.specs.Path.{path_of}
use Rattle.desk.specs.declared.Event.{Event}
use Rattle.desk.specs.declared.Event.TheVariants.{Take as take, Bring as bring}
use Rattle.desk.specs.Calls.{call, answers}
use Rattle.desk.specs.Morning.{morning_of}
use Rattle.runs.specs.Definitions.{definitions}
use Rattle.runs.specs.Tasks.{passages, zeros, h, task_with, opened, end, refused_by}
use Rattle.runs.specs.Made.{made, midway_in, arrived_in, over, counted}

-- h(a,b) is by how much b is nearer to task A's goal than a: from 0, 1, 2, 3 and 4 the costs left are 6, 4, 3, 1 and 0, which are also the h(s, goal)
abbrev nearer : List ℕ
nearer =
    0 ∷ 2 ∷ 3 ∷ 5 ∷ 6 ∷
    0 ∷ 0 ∷ 1 ∷ 3 ∷ 4 ∷
    0 ∷ 0 ∷ 0 ∷ 2 ∷ 3 ∷
    0 ∷ 0 ∷ 0 ∷ 0 ∷ 1 ∷
    0 ∷ 0 ∷ 0 ∷ 0 ∷ 0 ∷ []

-- task A with these estimates and W 50: the states' keys are 100 × label + 300, 200, 150, 50 and 0
abbrev keyed : Task
keyed = task_with nearer 50 100

-- a call on it; and a limited Take, by this worker and with this limit
abbrev called : Machine → Event → Answer
called m e = call passages nearer m e

abbrev limited_by : Machine → ℕ → ℕ → Counted
limited_by m worker limit = limited_of m passages nearer worker limit

-- calls that lead from its opening to the goal
abbrev way : List Event
way = take 0 ∷ bring 0 ∷ take 0 ∷ bring 0 ∷ take 0 ∷ bring 0 ∷ take 0 ∷ bring 0 ∷ take 0 ∷ []

-- the machine after three of them: 0 is finished, 1 out with label 2, 2 open with label 5, 3 and 4 are unseen; the keys are 300, 200 + 200, 500 + 150, 0 and 0
abbrev underway : Machine
underway = midway_in keyed

-- the machine after all of them, with labels 0, 2, 3, 5 and 6: the keys are 300, 200 + 200, 300 + 150, 500 + 50 and 600
abbrev there : Machine
there = arrived_in keyed

-- either with one key wrong: 2's, and 1's
abbrev wrong : Machine
wrong = with_key underway 2 651

abbrev wrong_there : Machine
wrong_there = with_key there 1 401

-- what worker 1's Take is told: Wait 1 where the machine is `underway`. And where state s has these keys, one after the other.
abbrev told : Machine → Reply
told m = (called m (take 1)).reply

abbrev told_with : ℕ → List ℕ → List Reply
told_with s keys = map (λ key. told (with_key underway s key)) keys

-- and where state 3, which is unseen, has this label and this key
abbrev told_unseen : ℕ → ℕ → Reply
told_unseen label key = told (with_key (with_label underway 3 label) 3 key)

-- and where another table is lent with the machine; and where the machine has another task's numbers, but the rows of `underway`
abbrev told_by : List ℕ → Reply
told_by estimates = (call passages estimates underway (take 1)).reply

abbrev renumbered : Task → Machine → Machine
renumbered t m =
    record { n = t.n; k = t.k; start = t.start; goal = t.goal; pull = t.pull; excess = t.excess; phase = m.phase; mark = m.mark; label = m.label; via = m.via; held = m.held; key = m.key }

abbrev told_as : Task → Reply
told_as t = told (renumbered t underway)

-- what comes to 9, 10, 11 and 11 where the machine fits: worker 2 of 2 with phase 1, worker 0 with phase 1, a Take of worker 0, who holds 1, and a Bring of worker 1, who holds nothing
abbrev asked : Machine → List Reply
asked m = (called (over m) (take 2)).reply ∷ (called (over m) (take 0)).reply ∷ (called m (take 0)).reply ∷ (called m (bring 1)).reply ∷ []

-- worker 0 brings state 0, whose label is 10, with these passages. 1 is open with label 15, 2 out and 3 finished with label 100, 4 unseen with label 3.
-- The keys of the five states are 1000 + 300, 1500 + 200, 10000 + 150, 10000 + 50 and 0; here those after the call.
abbrev brought : List ℕ → List ℕ
brought lent =
    let m = made keyed 0 (2 ∷ 1 ∷ 2 ∷ 3 ∷ []) (10 ∷ 15 ∷ 100 ∷ 100 ∷ 3 ∷ []) [] (0 ∷ 2 ∷ []) in
    front 5 (call lent nearer m (bring 0)).machine.key

-- path reading into six places with a 9 in each, from a place on: the reply, and the places
abbrev nines : List ℕ
nines = replicate 6 9

abbrev read_from : ℕ → Machine → Reply × List ℕ
read_from at m = let r = path_of m passages nearer nines at in (r.given.reply, r.buffer)

-- what comes to 13, 14 and 15 where the machine fits: phase 0, the goal's passage number 6 of 6, and place 7 of 6
abbrev readings : Machine → List (Reply × List ℕ)
readings m = map (read_from 7) (with_phase (with_via m 4 6) 0 ∷ with_via m 4 6 ∷ m ∷ [])

-- two states and W = E = 10,000: state 0 is open with label 255,000,000, h(0,1) is this, and the key of 0 this: what worker 0's Take is told
abbrev told_largest : ℕ → ℕ → Reply
told_largest estimate key =
    let t = task 2 1 0 1 10000 10000 [] (0 ∷ estimate ∷ 0 ∷ 0 ∷ []) in
    (call [] t.estimates (with_key (made t 0 (1 ∷ []) (255000000 ∷ []) [] []) 0 key) (take 0)).reply

pub record Keys : Type 0 where
  -- "Store each state's key (0 for unseen) in the machine, set by opening": the start is 1, so 50 × h(1,4) = 50 × 4. By h(4,1) it would be 0, by E for W 400. All others are unseen, and places past n have 0.
  pub opened_keys : (opened (task 5 2 1 4 50 100 passages nearer)).key ≡ 0 ∷ 200 ∷ replicate 254 0
  -- "opening hands back no machine to use: all numbers 0": W is 101, and the start's key would be 101 × 6.
  pub refused_keys : (opened (task_with nearer 101 100)).key ≡ replicate 256 0
  -- "and by every call that sets a label": the keys after each call, from opening's 300 on. Took 0. 1 and 2 get labels 2 and 5: 200 + 200, 500 + 150. Took 1. 2 falls to 3, the goal gets 11: 300 + 150, 1100 + 0.
  -- Took 2. 3 gets 5: 500 + 50. Took 3. The goal falls to 6: 600 + 0. Found.
  pub called_keys : map (λ (a : Answer). front 5 a.machine.key) (answers passages nearer (opened keyed) way) ≡
      (300 ∷ 0 ∷ 0 ∷ 0 ∷ 0 ∷ []) ∷
      (300 ∷ 400 ∷ 650 ∷ 0 ∷ 0 ∷ []) ∷
      (300 ∷ 400 ∷ 650 ∷ 0 ∷ 0 ∷ []) ∷
      (300 ∷ 400 ∷ 450 ∷ 0 ∷ 1100 ∷ []) ∷
      (300 ∷ 400 ∷ 450 ∷ 0 ∷ 1100 ∷ []) ∷
      (300 ∷ 400 ∷ 450 ∷ 550 ∷ 1100 ∷ []) ∷
      (300 ∷ 400 ∷ 450 ∷ 550 ∷ 1100 ∷ []) ∷
      (300 ∷ 400 ∷ 450 ∷ 550 ∷ 600 ∷ []) ∷
      (300 ∷ 400 ∷ 450 ∷ 550 ∷ 600 ∷ []) ∷ []
  -- The first three of them, made singly, in a morning, and with a limited Take, which compares 1 (400) with none
  pub called_machine : end keyed (take 0 ∷ bring 0 ∷ take 0 ∷ []) ≡ underway
  pub morning_machine : (morning_of (opened keyed) passages nearer (0 ∷ 65536 ∷ 0 ∷ []) (9 ∷ 9 ∷ 9 ∷ [])).given ≡ answer underway Done
  pub limited_machine : limited_by (end keyed (take 0 ∷ bring 0 ∷ [])) 0 0 ≡ counted underway (Took 1) 0
  -- The made-up machines have these keys.
  pub made_keys : underway.key ∷ there.key ∷ [] ≡ (300 ∷ 400 ∷ 650 ∷ replicate 253 0) ∷ (300 ∷ 400 ∷ 450 ∷ 550 ∷ 600 ∷ replicate 251 0) ∷ []
  -- Bring sets a key where it sets a label: an unseen state's, with label 15 whatever it had, 1500 + 0; an open one's, lowered to 14, 1400 + 200, and then to 13, 1300 + 200
  pub brought_set : brought (0 ∷ 4 ∷ 5 ∷ []) ≡ 1300 ∷ 1700 ∷ 10150 ∷ 10050 ∷ 1500 ∷ []
  pub brought_lowered : brought (0 ∷ 1 ∷ 4 ∷ []) ∷ brought (0 ∷ 1 ∷ 4 ∷ 0 ∷ 1 ∷ 3 ∷ []) ∷ [] ≡
      (1300 ∷ 1600 ∷ 10150 ∷ 10050 ∷ 0 ∷ []) ∷ (1300 ∷ 1500 ∷ 10150 ∷ 10050 ∷ 0 ∷ []) ∷ []
  -- A state that keeps its label keeps its key: an open one with label 15, an out one, a finished one, the held one, the far end of another state's passage and of a blocked one.
  pub brought_kept :
      map brought ((0 ∷ 1 ∷ 5 ∷ []) ∷ (0 ∷ 2 ∷ 5 ∷ []) ∷ (0 ∷ 3 ∷ 5 ∷ []) ∷ (0 ∷ 0 ∷ 0 ∷ []) ∷ (1 ∷ 4 ∷ 5 ∷ []) ∷ (0 ∷ 4 ∷ 4294967295 ∷ []) ∷ []) ≡
      replicate 6 (1300 ∷ 1700 ∷ 10150 ∷ 10050 ∷ 0 ∷ [])
  -- A key past n stays, whatever it is: "stays so where no rule sets it".
  pub brought_past : (called (with_key underway 5 9) (bring 0)).machine.key ≡ 300 ∷ 400 ∷ 450 ∷ 0 ∷ 1100 ∷ 9 ∷ replicate 250 0
  -- "8 also where the stored key of a state below n isn't that": by one, of the open 2, the out 1 and the finished 0; and where it is 0, as of an unseen one
  pub fits_open : told_with 2 (649 ∷ 650 ∷ 651 ∷ 0 ∷ []) ≡ refused_by 8 ∷ Wait 1 ∷ refused_by 8 ∷ refused_by 8 ∷ []
  pub fits_out : told_with 1 (399 ∷ 400 ∷ 401 ∷ 0 ∷ []) ≡ refused_by 8 ∷ Wait 1 ∷ refused_by 8 ∷ refused_by 8 ∷ []
  pub fits_finished : told_with 0 (299 ∷ 300 ∷ 301 ∷ 0 ∷ []) ≡ refused_by 8 ∷ Wait 1 ∷ refused_by 8 ∷ refused_by 8 ∷ []
  -- "(0 for unseen)": of 4, the last below n; places past n aren't read
  pub fits_past : told_with 4 (0 ∷ 1 ∷ []) ∷ told_with 5 (0 ∷ 1 ∷ []) ∷ told_with 255 (0 ∷ 1 ∷ []) ∷ [] ≡ (Wait 1 ∷ refused_by 8 ∷ []) ∷ (Wait 1 ∷ Wait 1 ∷ []) ∷ (Wait 1 ∷ Wait 1 ∷ []) ∷ []
  -- It is 0 whatever the label, and not what the labels 0, 7 and 255,000,000 make of it: 50, 700 + 50, 25,500,000,000 + 50.
  pub fits_unseen : map (λ label. told_unseen label 0) (0 ∷ 7 ∷ 255000000 ∷ []) ≡ Wait 1 ∷ Wait 1 ∷ Wait 1 ∷ []
  pub fits_formula : told_unseen 0 50 ∷ told_unseen 7 750 ∷ told_unseen 255000000 25500000050 ∷ [] ≡ refused_by 8 ∷ refused_by 8 ∷ refused_by 8 ∷ []
  -- The largest of a task that opening accepts, 25,500,000,000 + 10,000 × 255,000,000, and what 32 bits would keep of it; and, as "Estimates aren't checked again at each call", one with the largest number of 32 bits as an estimate.
  pub fits_largest : told_largest 255000000 2575500000000 ∷ told_largest 255000000 2814589696 ∷ told_largest 4294967295 42975172950000 ∷ [] ≡ Took 0 ∷ refused_by 8 ∷ Took 0 ∷ []
  -- Another table than the one the keys were made with: another h(s, goal) of the open, the out and the finished state. Not looked at are that of the unseen 3, and h(1,2), by which 2 depends on 1 still, 300 > 200.
  pub fits_table : map told_by (h 2 4 4 nearer ∷ h 1 4 5 nearer ∷ h 0 4 7 nearer ∷ zeros ∷ h 3 4 2 nearer ∷ h 1 2 2 nearer ∷ nearer ∷ []) ≡
      refused_by 8 ∷ refused_by 8 ∷ refused_by 8 ∷ refused_by 8 ∷ Wait 1 ∷ Wait 1 ∷ Wait 1 ∷ []
  -- Other numbers in the machine than those the keys were made with: W 51, W 0, goal 3. Start, k and E make no key; with E 200, 300 > 200.
  pub fits_numbers :
      map told_as (
      task 5 2 0 4 51 100 passages nearer ∷
      task 5 2 0 4 0 100 passages nearer ∷
      task 5 2 0 3 50 100 passages nearer ∷
      task 5 2 1 4 50 100 passages nearer ∷
      task 5 3 0 4 50 100 passages nearer ∷
      task 5 2 0 4 50 200 passages nearer ∷ []) ≡
      refused_by 8 ∷ refused_by 8 ∷ refused_by 8 ∷ Wait 1 ∷ Wait 1 ∷ Wait 1 ∷ []
  -- "the machine comes back as it went in": by Take and Bring, which are Wait 1 and Brought 2 with the right key
  pub refused_machine : called wrong (take 1) ∷ called wrong (bring 0) ∷ [] ≡ answer wrong (refused_by 8) ∷ answer wrong (refused_by 8) ∷ []
  -- 8 comes before 9, 10 and 11, which apply too.
  pub refused_order : asked wrong ∷ asked underway ∷ [] ≡ (refused_by 8 ∷ refused_by 8 ∷ refused_by 8 ∷ refused_by 8 ∷ []) ∷ (refused_by 9 ∷ refused_by 10 ∷ refused_by 11 ∷ refused_by 11 ∷ []) ∷ []
  -- A limited Take, with a count of "0 where refused", is refused before it is Cut: worker 1 makes 1 comparison, of 2 with 1.
  pub limited_wrong :
      limited_by wrong 1 1 ∷ limited_by wrong 1 0 ∷ limited_by (over wrong) 2 0 ∷ limited_by underway 1 1 ∷ limited_by underway 1 0 ∷ [] ≡
      counted wrong (refused_by 8) 0 ∷ counted wrong (refused_by 8) 0 ∷ counted (over wrong) (refused_by 8) 0 ∷ counted underway (Wait 1) 1 ∷ counted underway (Cut 0) 0 ∷ []
  -- Path reading: a finished state's key, the goal's, and one past n; "Nothing is written".
  pub path_keys :
      map (read_from 0) (there ∷ wrong_there ∷ with_key there 4 599 ∷ with_key there 5 1 ∷ []) ≡
      (Read 5, 0 ∷ 1 ∷ 2 ∷ 3 ∷ 4 ∷ 9 ∷ []) ∷ (refused_by 8, nines) ∷ (refused_by 8, nines) ∷ (Read 5, 0 ∷ 1 ∷ 2 ∷ 3 ∷ 4 ∷ 9 ∷ []) ∷ []
  -- 8 comes before 13, 14 and 15, which apply too.
  pub path_order :
      readings wrong_there ∷ readings there ∷ [] ≡
      ((refused_by 8, nines) ∷ (refused_by 8, nines) ∷ (refused_by 8, nines) ∷ []) ∷ ((refused_by 13, nines) ∷ (refused_by 14, nines) ∷ (refused_by 15, nines) ∷ []) ∷ []
  -- A whole morning is served: its Take and its Bring get their 8.
  pub morning_wrong : morning_of wrong passages nearer (1 ∷ 65536 ∷ []) (9 ∷ 9 ∷ 9 ∷ []) ≡ record { given = answer wrong Done; row = (7 * 4294967296 + 8) ∷ (7 * 4294967296 + 8) ∷ 9 ∷ [] }
  pub morning_table : morning_of underway passages zeros (1 ∷ 65536 ∷ []) (9 ∷ 9 ∷ 9 ∷ []) ≡ record { given = answer underway Done; row = (7 * 4294967296 + 8) ∷ (7 * 4294967296 + 8) ∷ 9 ∷ [] }

pub keys : Keys
unfolding definitions
keys = record {
  opened_keys = refl;
  refused_keys = refl;
  called_keys = refl;
  called_machine = refl;
  morning_machine = refl;
  limited_machine = refl;
  made_keys = refl;
  brought_set = refl;
  brought_lowered = refl;
  brought_kept = refl;
  brought_past = refl;
  fits_open = refl;
  fits_out = refl;
  fits_finished = refl;
  fits_past = refl;
  fits_unseen = refl;
  fits_formula = refl;
  fits_largest = refl;
  fits_table = refl;
  fits_numbers = refl;
  refused_machine = refl;
  refused_order = refl;
  limited_wrong = refl;
  path_keys = refl;
  path_order = refl;
  morning_wrong = refl;
  morning_table = refl;
}
