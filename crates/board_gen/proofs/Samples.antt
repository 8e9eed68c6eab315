-- Samples of the texts of small boards, worked out by hand.
use Rattle.std.proofs.Common.{◌≡◌, ◌==◌, ◌+◌, [], ◌∷◌, map, refl}
use Rattle.std.specs.Prelude.{codes, count_by}
use Rattle.std.specs.List.{range_with_len}
use Rattle.std.specs.Fmt.{digits}
use Rattle.board_gen.specs.BoardTexts.{chain_file_text, net_text, ring_line, bus_line}
use Rattle.board_gen.specs.DeviceText.{attributes_text, bsdl_text, device_cell_line, device_head, map_line, numbers}

chain_of_one : chain_file_text 1 ≡ codes "DEVICE U1 GEN -\n"
unfolding chain_file_text digits
chain_of_one = refl

chain_of_two : chain_file_text 2 ≡ codes "DEVICE U1 GEN -\nDEVICE U2 GEN -\n"
unfolding chain_file_text digits
chain_of_two = refl

-- the line of a net from part 1 to part 2
first_ring : ring_line 2 1 0 ≡ codes "NET R1_0 U1.1 U2.33\n"
unfolding digits
first_ring = refl

last_ring : ring_line 2 2 31 ≡ codes "NET R2_31 U2.32 U1.64\n"
unfolding digits
last_ring = refl

ring_of_one : ring_line 1 1 5 ≡ codes "NET R1_5 U1.6 U1.38\n"
unfolding digits
ring_of_one = refl

ring_of_most : ring_line 255 254 9 ≡ codes "NET R254_9 U254.10 U255.42\n"
unfolding digits
ring_of_most = refl

-- the line of a net of the bus
bus_of_one : bus_line 1 0 ≡ codes "NET B0 U1.65\n"
unfolding digits
bus_of_one = refl

bus_of_three : bus_line 3 7 ≡ codes "NET B7 U1.72 U2.72 U3.72\n"
unfolding digits
bus_of_three = refl

-- The net file of `k` parts has `32 k + 8` lines, one for each net. The samples have 1 and 2 parts.
nets_of_one : count_by (λ byte. byte == 10) (net_text 1) ≡ 40
unfolding net_text digits
nets_of_one = refl

nets_of_two : count_by (λ byte. byte == 10) (net_text 2) ≡ 72
unfolding net_text digits
nets_of_two = refl

-- the line of the last control cell
last_control : device_cell_line 4 ≡ codes "\"4 (BC_1, *, control, 1),\" &\n"
unfolding digits
last_control = refl

first_output : device_cell_line 5 ≡ codes "\"5 (BC_1, Q(0), output3, X, 0, 1, Z),\" &\n"
unfolding digits
first_output = refl

last_output : device_cell_line 36 ≡ codes "\"36 (BC_1, Q(31), output3, X, 3, 1, Z),\" &\n"
unfolding digits
last_output = refl

first_input : device_cell_line 37 ≡ codes "\"37 (BC_1, D(0), input, X),\" &\n"
unfolding digits
first_input = refl

last_input : device_cell_line 68 ≡ codes "\"68 (BC_1, D(31), input, X),\" &\n"
unfolding digits
last_input = refl

first_bus_cell : device_cell_line 69 ≡ codes "\"69 (BC_7, B(0), bidir, X, 4, 1, Z),\" &\n"
unfolding digits
first_bus_cell = refl

last_cell : device_cell_line 76 ≡ codes "\"76 (BC_7, B(7), bidir, X, 4, 1, Z)\";\n"
unfolding digits
last_cell = refl

-- the lines of cells 0 to 4, which are the control cells
control_cells : map device_cell_line (range_with_len 0 5) ≡
    codes "\"0 (BC_1, *, control, 1),\" &\n"
    ∷ codes "\"1 (BC_1, *, control, 1),\" &\n"
    ∷ codes "\"2 (BC_1, *, control, 1),\" &\n"
    ∷ codes "\"3 (BC_1, *, control, 1),\" &\n"
    ∷ codes "\"4 (BC_1, *, control, 1),\" &\n" ∷ []
unfolding digits
control_cells = refl

-- the lines of cells 5 to 36, which are the outputs; each eight outputs have one control
output_cells : map device_cell_line (range_with_len 5 32) ≡
    codes "\"5 (BC_1, Q(0), output3, X, 0, 1, Z),\" &\n"
    ∷ codes "\"6 (BC_1, Q(1), output3, X, 0, 1, Z),\" &\n"
    ∷ codes "\"7 (BC_1, Q(2), output3, X, 0, 1, Z),\" &\n"
    ∷ codes "\"8 (BC_1, Q(3), output3, X, 0, 1, Z),\" &\n"
    ∷ codes "\"9 (BC_1, Q(4), output3, X, 0, 1, Z),\" &\n"
    ∷ codes "\"10 (BC_1, Q(5), output3, X, 0, 1, Z),\" &\n"
    ∷ codes "\"11 (BC_1, Q(6), output3, X, 0, 1, Z),\" &\n"
    ∷ codes "\"12 (BC_1, Q(7), output3, X, 0, 1, Z),\" &\n"
    ∷ codes "\"13 (BC_1, Q(8), output3, X, 1, 1, Z),\" &\n"
    ∷ codes "\"14 (BC_1, Q(9), output3, X, 1, 1, Z),\" &\n"
    ∷ codes "\"15 (BC_1, Q(10), output3, X, 1, 1, Z),\" &\n"
    ∷ codes "\"16 (BC_1, Q(11), output3, X, 1, 1, Z),\" &\n"
    ∷ codes "\"17 (BC_1, Q(12), output3, X, 1, 1, Z),\" &\n"
    ∷ codes "\"18 (BC_1, Q(13), output3, X, 1, 1, Z),\" &\n"
    ∷ codes "\"19 (BC_1, Q(14), output3, X, 1, 1, Z),\" &\n"
    ∷ codes "\"20 (BC_1, Q(15), output3, X, 1, 1, Z),\" &\n"
    ∷ codes "\"21 (BC_1, Q(16), output3, X, 2, 1, Z),\" &\n"
    ∷ codes "\"22 (BC_1, Q(17), output3, X, 2, 1, Z),\" &\n"
    ∷ codes "\"23 (BC_1, Q(18), output3, X, 2, 1, Z),\" &\n"
    ∷ codes "\"24 (BC_1, Q(19), output3, X, 2, 1, Z),\" &\n"
    ∷ codes "\"25 (BC_1, Q(20), output3, X, 2, 1, Z),\" &\n"
    ∷ codes "\"26 (BC_1, Q(21), output3, X, 2, 1, Z),\" &\n"
    ∷ codes "\"27 (BC_1, Q(22), output3, X, 2, 1, Z),\" &\n"
    ∷ codes "\"28 (BC_1, Q(23), output3, X, 2, 1, Z),\" &\n"
    ∷ codes "\"29 (BC_1, Q(24), output3, X, 3, 1, Z),\" &\n"
    ∷ codes "\"30 (BC_1, Q(25), output3, X, 3, 1, Z),\" &\n"
    ∷ codes "\"31 (BC_1, Q(26), output3, X, 3, 1, Z),\" &\n"
    ∷ codes "\"32 (BC_1, Q(27), output3, X, 3, 1, Z),\" &\n"
    ∷ codes "\"33 (BC_1, Q(28), output3, X, 3, 1, Z),\" &\n"
    ∷ codes "\"34 (BC_1, Q(29), output3, X, 3, 1, Z),\" &\n"
    ∷ codes "\"35 (BC_1, Q(30), output3, X, 3, 1, Z),\" &\n"
    ∷ codes "\"36 (BC_1, Q(31), output3, X, 3, 1, Z),\" &\n" ∷ []
unfolding digits
output_cells = refl

-- the lines of cells 37 to 68, which are the inputs
input_cells : map device_cell_line (range_with_len 37 32) ≡
    codes "\"37 (BC_1, D(0), input, X),\" &\n"
    ∷ codes "\"38 (BC_1, D(1), input, X),\" &\n"
    ∷ codes "\"39 (BC_1, D(2), input, X),\" &\n"
    ∷ codes "\"40 (BC_1, D(3), input, X),\" &\n"
    ∷ codes "\"41 (BC_1, D(4), input, X),\" &\n"
    ∷ codes "\"42 (BC_1, D(5), input, X),\" &\n"
    ∷ codes "\"43 (BC_1, D(6), input, X),\" &\n"
    ∷ codes "\"44 (BC_1, D(7), input, X),\" &\n"
    ∷ codes "\"45 (BC_1, D(8), input, X),\" &\n"
    ∷ codes "\"46 (BC_1, D(9), input, X),\" &\n"
    ∷ codes "\"47 (BC_1, D(10), input, X),\" &\n"
    ∷ codes "\"48 (BC_1, D(11), input, X),\" &\n"
    ∷ codes "\"49 (BC_1, D(12), input, X),\" &\n"
    ∷ codes "\"50 (BC_1, D(13), input, X),\" &\n"
    ∷ codes "\"51 (BC_1, D(14), input, X),\" &\n"
    ∷ codes "\"52 (BC_1, D(15), input, X),\" &\n"
    ∷ codes "\"53 (BC_1, D(16), input, X),\" &\n"
    ∷ codes "\"54 (BC_1, D(17), input, X),\" &\n"
    ∷ codes "\"55 (BC_1, D(18), input, X),\" &\n"
    ∷ codes "\"56 (BC_1, D(19), input, X),\" &\n"
    ∷ codes "\"57 (BC_1, D(20), input, X),\" &\n"
    ∷ codes "\"58 (BC_1, D(21), input, X),\" &\n"
    ∷ codes "\"59 (BC_1, D(22), input, X),\" &\n"
    ∷ codes "\"60 (BC_1, D(23), input, X),\" &\n"
    ∷ codes "\"61 (BC_1, D(24), input, X),\" &\n"
    ∷ codes "\"62 (BC_1, D(25), input, X),\" &\n"
    ∷ codes "\"63 (BC_1, D(26), input, X),\" &\n"
    ∷ codes "\"64 (BC_1, D(27), input, X),\" &\n"
    ∷ codes "\"65 (BC_1, D(28), input, X),\" &\n"
    ∷ codes "\"66 (BC_1, D(29), input, X),\" &\n"
    ∷ codes "\"67 (BC_1, D(30), input, X),\" &\n"
    ∷ codes "\"68 (BC_1, D(31), input, X),\" &\n" ∷ []
unfolding digits
input_cells = refl

-- the lines of cells 69 to 76, which are the bus pins; all share one control
bus_cells : map device_cell_line (range_with_len 69 8) ≡
    codes "\"69 (BC_7, B(0), bidir, X, 4, 1, Z),\" &\n"
    ∷ codes "\"70 (BC_7, B(1), bidir, X, 4, 1, Z),\" &\n"
    ∷ codes "\"71 (BC_7, B(2), bidir, X, 4, 1, Z),\" &\n"
    ∷ codes "\"72 (BC_7, B(3), bidir, X, 4, 1, Z),\" &\n"
    ∷ codes "\"73 (BC_7, B(4), bidir, X, 4, 1, Z),\" &\n"
    ∷ codes "\"74 (BC_7, B(5), bidir, X, 4, 1, Z),\" &\n"
    ∷ codes "\"75 (BC_7, B(6), bidir, X, 4, 1, Z),\" &\n"
    ∷ codes "\"76 (BC_7, B(7), bidir, X, 4, 1, Z)\";\n" ∷ []
unfolding digits
bus_cells = refl

-- the list of the pins of the bus port
bus_pins : numbers 65 8 ≡ codes "65,66,67,68,69,70,71,72"
unfolding digits
bus_pins = refl

-- the BSDL text has 15 lines before the first cell, one line for each of the 77 cells, and one line after them
lines_of_device : count_by (λ byte. byte == 10) bsdl_text ≡ 15 + 77 + 1
unfolding bsdl_text device_head map_line attributes_text digits
lines_of_device = refl
