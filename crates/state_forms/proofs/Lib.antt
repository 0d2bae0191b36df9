mod Whys
