-- How large an allowance is at most. Assumes nothing.
use Prim.Native.Nat.{ℕ, ◌+◌, ◌*◌, ◌/◌, ◌≤◌, ◌<◌}
use native.Mathlib.Nat.{mul-le-mul}
use native.Mathlib.Omega.{arith}
use Rattle.rules.specs.Record.{million}
use Rattle.allowance_figures.specs.Allowances.{allowance}

pub years : (i : ℕ) → i < 16 → i * (i + 1) ≤ 256
years i h =
    let l : i ≤ 16 = omega arith in
    let m : i + 1 ≤ 16 = omega arith in
    let p : i * (i + 1) ≤ 16 * 16 = mul-le-mul l m in
    p

pub claims : (n i : ℕ) → n ≤ million → i < 16 → n * (5 * (i * (i + 1) / 2) + 2 * i + 1) ≤ 700000000
claims n i h l =
    let m : 5 * (i * (i + 1) / 2) + 2 * i + 1 ≤ 700 = omega (arith, years i l) in
    let p : n * (5 * (i * (i + 1) / 2) + 2 * i + 1) ≤ million * 700 = mul-le-mul h m in
    p

pub allowance_most : (n i : ℕ) → n ≤ million → i < 16 → allowance n i ≤ 1000000000
unfolding allowance
allowance_most n i h l = omega (arith, claims n i h l)
