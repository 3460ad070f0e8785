-- "Refusal numbers", "Fits (8)" and the bounds of a task: each number by a case of its own, the order by cases in which several apply, the bounds just inside and just outside.
use Rattle.std.specs.Prelude.{◌≡◌, refl, true, false, List, [], ◌∷◌, map, ℕ, ◌+◌, ◌*◌, replicate, take as front}
use Rattle.rule.specs.Marks.{none}
use Rattle.checks.specs.Opening.{Task, task, sizes_right}
use Rattle.dealing.specs.declared.Decision.TheVariants.{Stuck}
use Rattle.desk.specs.declared.Machine.{Machine}
use Rattle.desk.specs.declared.Reply.{Reply}
use Rattle.desk.specs.declared.Reply.TheVariants.{Opened, Wait, Read, Done, Cut}
use Rattle.desk.specs.Machine.{with_phase, with_mark, with_label, with_via, with_key, hands_of}
use Rattle.desk.specs.Reply.{answer}
use Rattle.desk.specs.Take.{act}
use Rattle.desk.specs.Path.{path_of}
use Rattle.desk.specs.declared.Event.TheVariants.{Take as take, Bring as bring}
use Rattle.desk.specs.Calls.{call}
use Rattle.desk.specs.Morning.{Morning, morning_of}
use Rattle.runs.specs.Definitions.{definitions}
use Rattle.runs.specs.Tasks.{passages, zeros, h, task_with, task_a, opened, refusal, refused_by}
use Rattle.runs.specs.Made.{made, midway_in, midway, arrived, unfit, with_held, over, called, limited_by, counted, last_costs, single, pair, triple}

-- what worker 1's Take is told: Wait 1 where the machine is `midway`. And where the task's numbers and the lent slices are others.
abbrev told : Machine → Reply
told m = (called m (take 1)).reply

abbrev told_in : Task → Reply
told_in t = (call t.passages t.estimates (midway_in t) (take 1)).reply

-- path reading into six places with a 9 in each, from a place on: the reply, and the places
abbrev nines : List ℕ
nines = replicate 6 9

abbrev read_from : ℕ → Machine → Reply × List ℕ
read_from at m = let r = path_of m passages zeros nines at in (r.given.reply, r.buffer)

-- the reply alone, on another task
abbrev read_in : Task → Machine → Reply
read_in t m = (path_of m t.passages t.estimates nines 0).given.reply

-- `arrived`, but the goal's passage number is 6 of 6
abbrev astray : Machine
astray = with_via arrived 4 6

-- a whole morning on a machine that doesn't fit
abbrev morning : List ℕ → List ℕ → Morning
morning events row = morning_of unfit passages zeros events row

pub record Refusals : Type 0 where
  -- "Checked in this order; the first that applies is given": of this task all seven conditions are broken, and then one after the other is mended.
  pub opening_order :
      refusal (triple 0 3 101 1000001 1 6 7) ∷
      refusal (triple 2 3 101 1000001 1 6 7) ∷
      refusal (triple 2 0 101 1000001 1 6 7) ∷
      refusal (triple 2 0 100 1000001 1 6 7) ∷
      refusal (triple 2 0 100 1000000 1 6 7) ∷
      refusal (triple 2 0 100 1000000 0 6 7) ∷
      refusal (triple 2 0 100 1000000 0 5 6) ∷
      refusal (triple 2 0 100 1000000 0 5 5) ∷ [] ≡
      refused_by 1 ∷ refused_by 2 ∷ refused_by 3 ∷ refused_by 4 ∷ refused_by 5 ∷ refused_by 6 ∷ refused_by 7 ∷ Opened ∷ []
  -- 1 "n states, 1 to 256; k workers, 1 to 32"; "passage slice not a multiple of 3 or over 12,288 numbers, estimate slice not n × n"
  pub bounds_n : map (λ n. sizes_right n 1 0 (n * n)) (0 ∷ 1 ∷ 256 ∷ 257 ∷ []) ≡ false ∷ true ∷ true ∷ false ∷ []
  pub bounds_k : map (λ k. refusal (single k 0 100)) (0 ∷ 1 ∷ 32 ∷ 33 ∷ []) ≡ refused_by 1 ∷ Opened ∷ Opened ∷ refused_by 1 ∷ []
  pub bounds_passages : map (λ many. sizes_right 1 1 many 1) (0 ∷ 1 ∷ 2 ∷ 3 ∷ 12288 ∷ 12291 ∷ []) ≡ true ∷ false ∷ false ∷ true ∷ true ∷ false ∷ []
  pub bounds_estimates : map (λ many. refusal (task_with (replicate many 0) 100 100)) (24 ∷ 25 ∷ 26 ∷ []) ≡ refused_by 1 ∷ Opened ∷ refused_by 1 ∷ []
  -- 2 "start or goal not below n"
  pub bounds_start : map (λ start. refusal (task 5 2 start 4 100 100 passages zeros)) (4 ∷ 5 ∷ []) ≡ Opened ∷ refused_by 2 ∷ []
  pub bounds_goal : map (λ goal. refusal (task 5 2 0 goal 100 100 passages zeros)) (4 ∷ 5 ∷ []) ≡ Opened ∷ refused_by 2 ∷ []
  -- 3 "E (allowed excess) 100 to 10,000; W (pull to the goal) 0 to E"
  pub bounds_excess : map (λ excess. refusal (single 1 0 excess)) (99 ∷ 100 ∷ 10000 ∷ 10001 ∷ []) ≡ refused_by 3 ∷ Opened ∷ Opened ∷ refused_by 3 ∷ []
  pub bounds_pull : map (λ pull. refusal (single 1 pull 200)) (0 ∷ 200 ∷ 201 ∷ []) ≡ Opened ∷ Opened ∷ refused_by 3 ∷ []
  -- 4 "a passage end not below n, or a cost over 1,000,000"; order 4: "4 is given for costs above 1,000,000 other than this one", 4,294,967,295
  pub bounds_ends : refusal (pair 1 1 0 0) ∷ refusal (pair 2 1 0 0) ∷ refusal (pair 0 2 0 0) ∷ refusal (pair 0 2 4294967295 0) ∷ [] ≡ Opened ∷ refused_by 4 ∷ refused_by 4 ∷ refused_by 4 ∷ []
  pub bounds_cost : map (λ cost. refusal (pair 0 1 cost 0)) (1000000 ∷ 1000001 ∷ 4294967294 ∷ 4294967295 ∷ []) ≡ Opened ∷ refused_by 4 ∷ refused_by 4 ∷ Opened ∷ []
  -- 5 "an estimate too large, or h(a,a) not 0"; "each at most 255,000,000". The passage is blocked, and so "left out of check 6".
  pub bounds_estimate : map (λ estimate. refusal (pair 0 1 4294967295 estimate)) (255000000 ∷ 255000001 ∷ []) ≡ Opened ∷ refused_by 5 ∷ []
  -- 6 "a passage a to b with h(a,b) above its cost"
  pub bounds_passage : map (λ estimate. refusal (pair 0 1 3 estimate)) (3 ∷ 4 ∷ []) ≡ Opened ∷ refused_by 6 ∷ []
  -- Of Take, and of Bring, all of 8, 9, 10 and 11 apply, and then one after the other is mended; "the machine comes back as it went in".
  pub take_order :
      called (over unfit) (take 2) ∷ called (over midway) (take 2) ∷ called (over midway) (take 0) ∷ called midway (take 0) ∷ [] ≡
      answer (over unfit) (refused_by 8) ∷ answer (over midway) (refused_by 9) ∷ answer (over midway) (refused_by 10) ∷ answer midway (refused_by 11) ∷ []
  pub bring_order :
      called (with_phase unfit 1) (bring 2) ∷ called (with_phase midway 1) (bring 2) ∷ called (with_phase midway 1) (bring 1) ∷ called midway (bring 1) ∷ [] ≡
      answer (with_phase unfit 1) (refused_by 8) ∷ answer (with_phase midway 1) (refused_by 9) ∷ answer (with_phase midway 1) (refused_by 10) ∷ answer midway (refused_by 11) ∷ []
  -- Order 7: of a limited Take the same, with a count of "0 where refused"; worker 1, who isn't refused, makes 1 comparison, of 2 with 1. And with a limit of 0: who is refused isn't Cut.
  pub limited_order :
      limited_by (over unfit) 2 1 ∷ limited_by (over midway) 2 1 ∷ limited_by (over midway) 0 1 ∷ limited_by midway 0 1 ∷ limited_by midway 1 1 ∷ [] ≡
      counted (over unfit) (refused_by 8) 0 ∷ counted (over midway) (refused_by 9) 0 ∷ counted (over midway) (refused_by 10) 0 ∷ counted midway (refused_by 11) 0 ∷ counted midway (Wait 1) 1 ∷ []
  pub limited_cut :
      limited_by (over unfit) 2 0 ∷ limited_by (over midway) 2 0 ∷ limited_by (over midway) 0 0 ∷ limited_by midway 0 0 ∷ limited_by midway 1 0 ∷ [] ≡
      counted (over unfit) (refused_by 8) 0 ∷ counted (over midway) (refused_by 9) 0 ∷ counted (over midway) (refused_by 10) 0 ∷ counted midway (refused_by 11) 0 ∷ counted midway (Cut 0) 0 ∷ []
  -- 12 "as in step 4 above", to which no machine comes
  pub take_stuck : act midway (hands_of midway) 1 Stuck ≡ answer midway (refused_by 12)
  -- Fits: "conditions 1 to 4 hold of the machine's numbers and the lent slices". A passage slice of 17 numbers; goal 5 of 5; W 101; a cost of 1,000,001; none of them.
  pub fits_task :
      told_in (task 5 2 0 4 100 100 (front 17 passages) zeros) ∷
      told_in (task 5 2 0 5 100 100 passages zeros) ∷
      told_in (task 5 2 0 4 101 100 passages zeros) ∷
      told_in (task 5 2 0 4 100 100 (last_costs 1000001) zeros) ∷
      told_in task_a ∷ [] ≡
      refused_by 8 ∷ refused_by 8 ∷ refused_by 8 ∷ refused_by 8 ∷ Wait 1 ∷ []
  -- "Estimates aren't checked again at each call": broken are 5, 6 and 7
  pub fits_estimates : map (λ estimates. told_in (task_with estimates 100 100)) (h 0 0 1 zeros ∷ h 3 4 2 zeros ∷ h 1 2 1 zeros ∷ []) ≡ Wait 1 ∷ Wait 1 ∷ Wait 1 ∷ []
  -- "marks of states below n 0 to 3"; 5 isn't below n
  pub fits_marks : map told (with_mark midway 4 3 ∷ with_mark midway 4 4 ∷ with_mark midway 5 4 ∷ []) ≡ Wait 1 ∷ refused_by 8 ∷ Wait 1 ∷ []
  -- "phase 0 to 2"
  pub fits_phase : map told (with_phase midway 2 ∷ with_phase midway 3 ∷ []) ≡ refused_by 10 ∷ refused_by 8 ∷ []
  -- "labels of states below n at most 255,000,000"
  pub fits_labels : map told (with_label midway 4 255000000 ∷ with_label midway 4 255000001 ∷ with_label midway 5 255000001 ∷ []) ≡ Wait 1 ∷ refused_by 8 ∷ Wait 1 ∷ []
  -- "each worker below k holds nothing or an out state". Worker 1 holds an out state; a finished one; an open one; 5, which isn't below n. Worker 2, who isn't below k, holds a finished one.
  pub fits_workers :
      map told (with_held (with_mark midway 2 2) 1 2 ∷ with_held midway 1 0 ∷ with_held midway 1 2 ∷ with_held (with_mark midway 5 2) 1 5 ∷ with_held midway 2 0 ∷ []) ≡
      refused_by 11 ∷ refused_by 8 ∷ refused_by 8 ∷ refused_by 8 ∷ Wait 1 ∷ []
  -- "each out state is held by exactly one worker below k". State 1 is held by both; by none; by worker 2, who isn't below k. State 5, which isn't below n, is out.
  pub fits_held :
      map told (with_held midway 1 1 ∷ with_held midway 0 none ∷ with_held (with_held midway 0 none) 2 1 ∷ with_mark midway 5 2 ∷ []) ≡
      refused_by 8 ∷ refused_by 8 ∷ refused_by 8 ∷ Wait 1 ∷ []
  -- Of path reading 8, 13 and 14 apply, and then one after the other is mended; "Nothing is written". 15 "a place past the end leaves none"
  pub path_order :
      map (read_from 7) (with_mark (with_phase astray 0) 4 4 ∷ with_phase astray 0 ∷ astray ∷ arrived ∷ []) ≡
      (refused_by 8, nines) ∷ (refused_by 13, nines) ∷ (refused_by 14, nines) ∷ (refused_by 15, nines) ∷ []
  -- 14 "a passage number isn't one, doesn't end at the state, label isn't near label + cost": 6 of 6; 0→2, of cost 5, for state 3, whose label is 5; 7, with its key, for 5 + 1
  pub path_links : map (read_from 0) (astray ∷ with_via arrived 3 1 ∷ with_key (with_label arrived 4 7) 4 700 ∷ []) ≡ (refused_by 14, nines) ∷ (refused_by 14, nines) ∷ (refused_by 14, nines) ∷ []
  -- "or the start with label 0 isn't met within n states": the goal came by a passage 1→1 of cost 0; the start has label 1
  pub path_round : read_in (pair 1 1 0 0) (made (pair 1 1 0 0) 1 (3 ∷ 1 ∷ []) [] (none ∷ 0 ∷ []) []) ≡ refused_by 14
  pub path_start : read_in (single 1 0 100) (made (single 1 0 100) 1 (1 ∷ []) (1 ∷ []) [] []) ≡ refused_by 14
  -- Order 4: "14 also where the path would use a blocked passage".
  pub path_blocked : map (λ cost. read_in (task 5 2 0 4 100 100 (last_costs cost) zeros) arrived) (1 ∷ 4294967295 ∷ []) ≡ Read 5 ∷ refused_by 14 ∷ []
  -- Order 2: "Refusals, before all others: 16 where the row has fewer places than events, then 18 where an event is neither Take nor Bring."
  pub morning_places : morning (0 ∷ 131072 ∷ []) (9 ∷ []) ≡ record { given = answer unfit (refused_by 16); row = 9 ∷ [] }
  pub morning_events : morning (0 ∷ 131072 ∷ []) (9 ∷ 9 ∷ []) ≡ record { given = answer unfit (refused_by 18); row = 9 ∷ 9 ∷ [] }
  -- "replies and last machine equal those of the calls made singly, refused ones included. The row past the last event keeps what it had." A reply in the row is its case × 2^32 + its number: Took 0, Brought 2, Took 1.
  pub morning_served : morning_of (opened task_a) passages zeros (0 ∷ 65536 ∷ 0 ∷ []) (9 ∷ 9 ∷ 9 ∷ 9 ∷ []) ≡
      record { given = answer midway Done; row = (1 * 4294967296 + 0) ∷ (2 * 4294967296 + 2) ∷ (1 * 4294967296 + 1) ∷ 9 ∷ [] }
  -- That the machine doesn't fit is no refusal of the whole: each event gets its 8, and where there is none the reply is Done.
  pub morning_none : morning [] (9 ∷ []) ≡ record { given = answer unfit Done; row = 9 ∷ [] }
  pub morning_unfit : morning (1 ∷ 131071 ∷ []) (9 ∷ 9 ∷ 9 ∷ []) ≡ record { given = answer unfit Done; row = (7 * 4294967296 + 8) ∷ (7 * 4294967296 + 8) ∷ 9 ∷ [] }

pub refusals : Refusals
unfolding definitions
refusals = record {
  opening_order = refl;
  bounds_n = refl;
  bounds_k = refl;
  bounds_passages = refl;
  bounds_estimates = refl;
  bounds_start = refl;
  bounds_goal = refl;
  bounds_excess = refl;
  bounds_pull = refl;
  bounds_ends = refl;
  bounds_cost = refl;
  bounds_estimate = refl;
  bounds_passage = refl;
  take_order = refl;
  bring_order = refl;
  limited_order = refl;
  limited_cut = refl;
  take_stuck = refl;
  fits_task = refl;
  fits_estimates = refl;
  fits_marks = refl;
  fits_phase = refl;
  fits_labels = refl;
  fits_workers = refl;
  fits_held = refl;
  path_order = refl;
  path_links = refl;
  path_round = refl;
  path_start = refl;
  path_blocked = refl;
  morning_places = refl;
  morning_events = refl;
  morning_served = refl;
  morning_none = refl;
  morning_unfit = refl;
}
